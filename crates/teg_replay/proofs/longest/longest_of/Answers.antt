use Rattle.std.proofs.Common.{◌≡◌, get_or, arith}
use Rattle.std.proofs.lemmas.List.{get_or_default}
use Rattle.teg_net.specs.declared.entries.PlaceId.{PlaceId}
use Rattle.teg_replay.proofs.Latest.{no_id}
use Rattle.teg_replay.proofs.LongestHeld.{longest_push, longest_set, longest_is}
use Rattle.teg_replay.proofs.longest.longest_of.Goals as goal
use Rattle.teg_replay.proofs.longest.longest_of.Goals.{in-Some, in-None+in_ok-push-in-None}

pub loop-id-preserved : goal.loop-id-preserved
loop-id-preserved c =
    let net = c.args.net.now in
    let into = c.args.into.now in
    let ids = c.loop-id.places.items in
    let i = c.loop-id.id-index in
    let t = c.args._transition.index in
    let l = c.loop-id-test.true in
    let id : PlaceId = get_or into i no_id in
    let is : (d : PlaceId) → get_or into i d ≡ id = λ d. get_or_default into i d no_id l in
    elim c.match-longer_at.branch [
      | in-Some w ↦
          rw w.places-is
          (longest_set net t into ids i c.listed_at-listed.result id w.in-Some.longer c.requires.into c.loop-id.invariant l is (rw c.deref.ensures.value at w.in-Some.ensures.within)
          (λ d. rw c.deref.ensures.value at (w.in-Some.ensures.longer d)))
      | in-None+in_ok-push-in-None w ↦ rw (w.places-is, w.in_ok-push-in-None.ensures.items) (longest_push net t into ids i id c.requires.into c.loop-id.invariant l is)
    ]

pub returns : goal.returns
returns c =
    longest_is c.args.net.now c.args._transition.index c.args.into.now c.loop-id.places.items c.loop-id.id-index c.requires.into c.loop-id.invariant (omega (arith, c.loop-id-test.false))
