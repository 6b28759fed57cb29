use Rattle.std.proofs.Common.{ℕ, ◌≡◌, ◌≤◌, ◌<◌, ◌+◌, ◌*◌, List, length, get_or, subst}
use Rattle.teg_net.specs.declared.entries.PlaceId.{PlaceId}
use Rattle.teg_net.specs.declared.entries.Place.{Place}
use Rattle.teg_net.specs.Circuits.{place_at}
use Rattle.teg_net.specs.Limits.{greatest_input_date}
use Rattle.teg_net.proofs.Reading.{read_place}
use Rattle.change_laws.proofs.Changing.{ready_of_tokens}
use Rattle.timetable_calls.specs.Departures.{IsMoved}
use Rattle.timetable_calls.proofs.Moving.{starts_more}
use Rattle.timetable_calls.proofs.starts.starts.Goals as goal

pub loop-index-preserved : goal.loop-index-preserved
loop-index-preserved c =
    let net = c.args.net.now in
    let scale = c.args.scale in
    let period = c.args.period in
    let k = c.loop-index.index in
    let id : PlaceId = record { index = k } in
    let l : k < length net.places = rw c.places-place-items.ensures.value at c.loop-index-test.true in
    let place : c.place-item.result ≡ place_at net id = read_place net c.places-place-items.result.now id c.place-item.result c.places-place-items.ensures.value l c.place-item.is in
    let old : List ℕ = c.loop-index.firsts.items in
    let new : List ℕ = c.move_to.new.firsts.items in
    let first : ℕ = c.first_ready-first.result in
    let late = subst (λ (xs : List ℕ). (j : ℕ) → j < length xs → scale * get_or xs j 0 ≤ first + period * j) c.as_slice.ensures c.first_ready-first.ensures.late in
    let least = subst (λ (xs : List ℕ). (d : ℕ) → ((j : ℕ) → j < length xs → scale * get_or xs j 0 ≤ d + period * j) → first ≤ d) c.as_slice.ensures c.first_ready-first.ensures.least in
    let ok = c.places-place-items.ensures.rules in
    starts_more net scale period greatest_input_date k first old new (ready_of_tokens net ok) (λ i d in'. (ok.each_place i d in').ready_in) c.loop-index.invariant l
    (subst (λ (z : Place). IsMoved old z.to.index first new) place c.move_to.ensures)
    (subst (λ (z : Place). (j : ℕ) → j < length z.ready → scale * get_or z.ready j 0 ≤ first + period * j) place late)
    (subst (λ (z : Place). (d : ℕ) → ((j : ℕ) → j < length z.ready → scale * get_or z.ready j 0 ≤ d + period * j) → first ≤ d) place least)
