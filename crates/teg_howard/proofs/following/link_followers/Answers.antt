use Rattle.std.proofs.Common.{◌≡◌, ◌<◌, None, length, get_or, refl, arith}
use Rattle.std.proofs.lemmas.List.{get_or_read, get_or_default}
use Rattle.teg_net.specs.Circuits.{no_place, from_of}
use Rattle.teg_net.specs.Parts.{IsMember}
use Rattle.policy_rounds.specs.Policies.{first_id}
use Rattle.policy_rounds.specs.PolicyLists.{policy_of}
use Rattle.teg_howard.proofs.Spreading.{linked_skip, linked_more}
use Rattle.teg_howard.proofs.following.link_followers.Goals.{then-parts-member+then-member-root, else-parts-member}
use Rattle.teg_howard.proofs.following.link_followers.Goals.{else-parts-member-via-then-parts-member+else-member-root}
use Rattle.teg_howard.proofs.following.link_followers.Goals.{else-parts-member-via-else-parts-member}
use Rattle.teg_howard.proofs.following.link_followers.Goals as goal

pub loop-member-preserved : goal.loop-member-preserved
loop-member-preserved c =
    let net = c.args.part.now.net.now in
    let parts = c.args.part.now.parts.now in
    let part = c.args.part.now.number in
    let π = policy_of c.args.policy.now in
    let root = c.args.root in
    let i = c.loop-member.member in
    let h = c.loop-member.invariant in
    let highest = c.loop-member.highest.items in
    let lower = c.loop-member.lower.items in
    let i_in = c.loop-member-test.true in
    let in_net : (π i).index < length net.places = c.requires.in_range i first_id (omega (arith, i_in, c.requires.count)) in
    let from_in : from_of net (π i) < length parts = let l = (c.places-places.ensures.rules.each_place (π i).index no_place in_net).from_in in omega (arith, l, c.args.part.now.count) in
    elim c.if-parts-member.branch [
      | then-parts-member+then-member-root w ↦
          let member : IsMember parts part i = record { in_range = i_in; here = w.if-parts-member.true } in
          let read = get_or_default net.places (π i).index w.index-places-policy.result no_place in_net in
          let value : w.index.result.now ≡ get_or highest (from_of net (π i)) None =
          get_or_read highest (from_of net (π i)) w.index.result.now (omega (arith, from_in, h.highest_count)) (rw (c.places-places.ensures.value, read) at w.index.ensures) None in
          rw (w.highest-is, w.lower-is, c.places-places.ensures.value, read, value)
          (linked_more net parts part π root highest lower i h (record { member = member; other = w.if-member-root.true; starts = refl }) from_in)
      | else-parts-member w ↦
          rw (w.highest-is, w.lower-is)
          (linked_skip net parts part π root highest lower i h
          (λ x a.
          elim w.else-parts-member.branch [
            | else-parts-member-via-then-parts-member+else-member-root v ↦ a.other v.if-member-root.false
            | else-parts-member-via-else-parts-member v ↦ v.if-parts-member.false a.member.here
          ]))
    ]
