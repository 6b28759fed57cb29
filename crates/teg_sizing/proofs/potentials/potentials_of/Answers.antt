use Rattle.std.proofs.Common.{ℤ, pos, ◌≡◌, ◌+◌, ◌*◌, ◌+ℤ◌, ◌-ℤ◌, List, Some, get_or, sym, ap, subst, ◌∙◌, arith, rules}
use Rattle.std.proofs.lemmas.Int.{to_z-of_z}
use mir.Val.{SFits}
use mir.Syntax.{w128}
use Rattle.teg_net.specs.declared.entries.PlaceId.{PlaceId}
use Rattle.teg_net.specs.declared.entries.Place.{Place}
use Rattle.teg_net.specs.Nets.{NetLists}
use Rattle.teg_net.specs.Circuits.{no_place, place_at, from_of}
use Rattle.teg_net.specs.ReducedTimes.{IsMagnitudeWithin}
use Rattle.teg_net.proofs.Reading.{read_place}
use Rattle.teg_sizing.specs.declared.rounds.ValueCell.{ValueCell}
use Rattle.teg_sizing.specs.ValueRounds.{no_cell, value_told, AreValuesWithin}
use Rattle.teg_sizing.specs.EnoughPotentials.{greatest_told}
use Rattle.teg_sizing.proofs.EnoughPotentials.{read_told}
use Rattle.teg_sizing.proofs.RoundsSettled.{told_within, over_within, all_told, all_back, are_potentials}
use Rattle.teg_sizing.proofs.potentials.potentials_of.Goals as goal

-- what is told of the start of the place, and its limit
record Start (net : NetLists) (p : PlaceId) (cells : List ValueCell) (start : ℤ) : Type 0 where
  told : value_told cells (from_of net p) ≡ Some start
  within : IsMagnitudeWithin greatest_told start

start_of : (net : NetLists) (p : PlaceId) (q : Place) (cells : List ValueCell) (start : ℤ) → q ≡ place_at net p → AreValuesWithin greatest_told cells
    → (get_or cells q.from.index no_cell).value ≡ Some start → Start net p cells start
start_of net p q cells start place within e =
    let told : value_told cells (from_of net p) ≡ Some start = ap (λ (z : Place). value_told cells z.from.index) (sym place) ∙ e in
    record { told = told; within = told_within cells (from_of net p) start within told }

pub over_place-over-requires-clause-start : goal.over_place-over-requires-clause-start
over_place-over-requires-clause-start c =
    let net = c.args.asked.now.net.now in
    let q = c.index-places-place.result in
    let place = read_place net c.places.result.now c.args.asked.now.place q c.places.ensures.value c.requires.place c.index-places-place.is in
    let start = start_of net c.args.asked.now.place q c.args.apart.now c.unwrap-start.result place c.requires.settled.apart_settled.within c.unwrap-start.ensures in
    rw (read_told c.unwrap-start.result start.within) start.within

pub all_potentials-requires-clause-apart : goal.all_potentials-requires-clause-apart
all_potentials-requires-clause-apart c = all_told c.args.asked.now.net.now c.args.asked.now.target c.args.asked.now.place c.args.extra c.args.apart.now c.args.back.now c.requires.settled

pub all_potentials-requires-clause-back : goal.all_potentials-requires-clause-back
all_potentials-requires-clause-back c = all_back c.args.asked.now.net.now c.args.asked.now.target c.args.asked.now.place c.args.extra c.args.apart.now c.args.back.now c.requires.settled

pub all_potentials-requires-clause-over : goal.all_potentials-requires-clause-over
all_potentials-requires-clause-over c =
    let net = c.args.asked.now.net.now in
    let p = c.args.asked.now.place in
    let q = c.index-places-place.result in
    let over = c.over_place-over.result in
    let place = read_place net c.places.result.now p q c.places.ensures.value c.requires.place c.index-places-place.is in
    let start = start_of net p q c.args.apart.now c.unwrap-start.result place c.requires.settled.apart_settled.within c.unwrap-start.ensures in
    let own = c.places.ensures.rules.each_place p.index no_place c.requires.place in
    let hold = own.hold_in in
    let tokens = own.tokens_in in
    let same_hold : q.hold ≡ (place_at net p).hold = ap (λ (z : Place). z.hold) place in
    let same_tokens : q.tokens ≡ (place_at net p).tokens = ap (λ (z : Place). z.tokens) place in
    let first = c.from.ensures in
    let second = c.from-2.ensures in
    let fits : SFits w128 over = search rules in
    rw (to_z-of_z w128 over fits)
    (over_within c.args.asked.now.target q.hold (c.from.result + c.from-2.result) c.unwrap-start.result over c.requires.target (omega arith)
    (omega (arith, c.ranges.extra.fits)) start.within (rw (read_told c.unwrap-start.result start.within) at c.over_place-over.ensures))

pub returns : goal.returns
returns c =
    let net = c.args.asked.now.net.now in
    let r = c.args.asked.now.target in
    let p = c.args.asked.now.place in
    let extra = c.args.extra in
    let q = c.index-places-place.result in
    let s = c.unwrap-start.result in
    let over = c.over_place-over.result in
    let place = read_place net c.places.result.now p q c.places.ensures.value c.requires.place c.index-places-place.is in
    let start = start_of net p q c.args.apart.now s place c.requires.settled.apart_settled.within c.unwrap-start.ensures in
    let read : over ≡ ((pos (r.tokens * q.hold) -ℤ pos (r.time * (q.tokens + extra))) +ℤ s) = rw (read_told s start.within, c.from.ensures, c.from-2.ensures) at c.over_place-over.ensures in
    let is : over ≡ ((pos (r.tokens * (place_at net p).hold) -ℤ pos (r.time * ((place_at net p).tokens + extra))) +ℤ s) =
    subst (λ (z : Place). over ≡ ((pos (r.tokens * z.hold) -ℤ pos (r.time * (z.tokens + extra))) +ℤ s)) place read in
    let fits : SFits w128 over = search rules in
    are_potentials net r p extra c.places.ensures.rules c.requires.place c.requires.target c.args.apart.now c.args.back.now over
    c.in_ok-potentials.potentials.items c.requires.settled s start.told is (rw (to_z-of_z w128 over fits) at c.in_ok-potentials.ensures)
