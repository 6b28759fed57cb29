use Rattle.std.proofs.Common.{ℕ, ◌≡◌, ◌<◌, List, length, FitsSigned, ap, subst, arith, rules}
use Rattle.std.specs.Int.{w128}
use Rattle.std.proofs.lemmas.Int.{to_z-of_z}
use Rattle.teg_net.specs.declared.entries.PlaceId.{PlaceId}
use Rattle.teg_net.specs.declared.entries.Place.{Place}
use Rattle.teg_sizing.specs.ValueRounds.{IsRoundUpTo}
use Rattle.teg_net.proofs.Reading.{read_place}
use Rattle.teg_sizing.proofs.Offers.{taken_place, kept_place, no_place_taken}
use Rattle.teg_sizing.proofs.rounds.round_after.Goals as goal
use Rattle.teg_sizing.proofs.rounds.round_after.Goals.{in-Some+then-is_more, in-Some+else-is_more, in_default}

pub loop-index-preserved : goal.loop-index-preserved
loop-index-preserved c =
    let net = c.args.net.now in
    let k = c.loop-index.index in
    let id : PlaceId = record { index = k } in
    let l : k < length net.places = rw c.places-place-items.ensures.value at c.loop-index-test.true in
    let place = read_place net c.places-place-items.result.now id c.place-item.result c.places-place-items.ensures.value l c.place-item.is in
    let ok = c.places-place-items.ensures.rules in
    elim c.match-offer.branch [
      | in-Some+then-is_more w ↦
          let fits : FitsSigned w128 w.in-Some.offered = search rules in
          let is = to_z-of_z w128 w.in-Some.offered fits in
          rw (w.after-is, is)
          (taken_place net c.args.target c.args.except c.args.before.now c.loop-index.after.items k c.place-item.result
          w.in-Some.offered w.index.result.now ok c.requires.count c.loop-index.invariant l place
          w.in-Some.ensures.some w.index.ensures (rw is at (w.is_more.ensures.more w.if-is_more.true)))
      | in-Some+else-is_more w ↦
          let fits : FitsSigned w128 w.in-Some.offered = search rules in
          let is = to_z-of_z w128 w.in-Some.offered fits in
          rw w.after-is
          (kept_place net c.args.target c.args.except c.args.before.now c.loop-index.after.items k c.place-item.result w.in-Some.offered
          w.index.result.now ok c.requires.count c.loop-index.invariant l place
          w.in-Some.ensures.some w.index.ensures (rw is at (w.is_more.ensures.no_more w.if-is_more.false)))
      | in_default w ↦
          rw w.after-is (no_place_taken net c.args.target c.args.except c.args.before.now c.loop-index.after.items k c.place-item.result c.loop-index.invariant place w.in_default.ensures.none)
    ]

pub returns-clause-after : goal.returns-clause-after
returns-clause-after c =
    let net = c.args.net.now in
    let end : c.loop-index.index ≡ length net.places =
    (let all = ap (λ (z : List Place). length z) c.places-place-items.ensures.value in omega (arith, c.loop-index-test.false, c.loop-index.auto.index-end)) in
    rw c.new.ensures (subst (λ (z : ℕ). IsRoundUpTo net c.args.target c.args.except c.args.before.now z c.loop-index.after.items) end c.loop-index.invariant)
