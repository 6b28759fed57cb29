use Rattle.std.proofs.Common.{ℕ, ◌≡◌, ◌<◌, ◌+◌, ◌-◌, ◌*◌, List, length, get_or, subst}
use Rattle.teg_net.specs.declared.entries.PlaceId.{PlaceId}
use Rattle.teg_net.specs.declared.entries.Place.{Place}
use Rattle.teg_net.specs.Circuits.{place_at}
use Rattle.teg_net.proofs.Reading.{read_place}
use Rattle.timetable_calls.specs.Departures.{IsMoved}
use Rattle.timetable_calls.proofs.Moving.{round_more}
use Rattle.timetable_calls.proofs.rounds.round.Goals as goal

pub loop-index-preserved : goal.loop-index-preserved
loop-index-preserved c =
    let net = c.args.net.now in
    let k = c.loop-index.index in
    let id : PlaceId = record { index = k } in
    let l : k < length net.places = rw c.places-place-items.ensures.value at c.loop-index-test.true in
    let place : c.place-item.result ≡ place_at net id = read_place net c.places-place-items.result.now id c.place-item.result c.places-place-items.ensures.value l c.place-item.is in
    let old : List ℕ = c.loop-index.after.items in
    let new : List ℕ = c.move_to.new.firsts.items in
    let date : ℕ = c.after_place-date.result in
    round_more net c.args.scale c.args.period k date c.args.before.now old new c.loop-index.invariant l
    (subst (λ (z : Place). IsMoved old z.to.index date new) place c.move_to.ensures)
    (subst (λ (z : Place). date ≡ (get_or c.args.before.now z.from.index 0 + c.args.scale * z.hold) - c.args.period * z.tokens) place c.after_place-date.ensures)
