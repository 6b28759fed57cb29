use Rattle.std.proofs.Common.{rules, ◌≡◌, ◌≤◌, ◌<◌, ◌⊎◌, length, ap, arith}
use Rattle.teg_net.specs.declared.entries.PlaceId.{PlaceId}
use Rattle.teg_net.specs.Circuits.{place_at, no_place}
use Rattle.teg_net.specs.Nets.{IsPlaceOf}
use Rattle.teg_net.proofs.Reading.{read_place}
use Rattle.teg_certificates.specs.Sizes.{extra_at}
use Rattle.pace_check.specs.PathPotentials.{IsLowEnough, IsLowered, IsPastLimit}
use Rattle.pace_check.proofs.PathPotentials.{all_within, ends_below, lowering_begins, lowering_on, lowering_over, past_never}
use Rattle.pace_check.proofs.potentials.lower_all.Goals as goal

pub loop-number-init : goal.loop-number-init
loop-number-init c =
    let asked = c.args.asked.now in
    lowering_begins asked.net.now asked.target asked.place asked.extra c.args.most c.args.potentials.now c.requires.are

pub lower-requires-clause-ends : goal.lower-requires-clause-ends
lower-requires-clause-ends c =
    let asked = c.args.asked.now in
    let net = asked.net.now in
    let q : PlaceId = record { index = c.loop-number.number } in
    let l : q.index < length net.places = rw c.places-place-items.ensures.value at c.loop-number-test.true in
    let item : c.place-item.result ≡ place_at net q = read_place net c.places-place-items.result.now q c.place-item.result c.places-place-items.ensures.value l c.place-item.is in
    let ends = ends_below net c.places-place-items.ensures.rules in
    let count = c.loop-number.invariant.are.count in
    rw item (omega (arith, count, ends.from_in q l), omega (arith, count, ends.to_in q l))

pub lower-requires-clause-place : goal.lower-requires-clause-place
lower-requires-clause-place c =
    let asked = c.args.asked.now in
    let net = asked.net.now in
    let q : PlaceId = record { index = c.loop-number.number } in
    let l : q.index < length net.places = rw c.places-place-items.ensures.value at c.loop-number-test.true in
    let item : c.place-item.result ≡ place_at net q = read_place net c.places-place-items.result.now q c.place-item.result c.places-place-items.ensures.value l c.place-item.is in
    let kept : IsPlaceOf net (place_at net q) = c.places-place-items.ensures.rules.each_place q.index no_place l in
    rw item (kept.hold_in, kept.tokens_in)

pub lower-requires-clause-within : goal.lower-requires-clause-within
lower-requires-clause-within c =
    let asked = c.args.asked.now in
    all_within asked.net.now asked.target asked.place asked.extra c.args.most c.loop-number.potentials c.loop-number.invariant.are

pub loop-number-preserved : goal.loop-number-preserved
loop-number-preserved c =
    let asked = c.args.asked.now in
    let net = asked.net.now in
    let q : PlaceId = record { index = c.loop-number.number } in
    let l : q.index < length net.places = rw c.places-place-items.ensures.value at c.loop-number-test.true in
    let item : c.place-item.result ≡ place_at net q = read_place net c.places-place-items.result.now q c.place-item.result c.places-place-items.ensures.value l c.place-item.is in
    let step : IsLowered asked.target (place_at net q) (extra_at asked.place asked.extra q) c.loop-number.potentials c.lower.new.potentials
    ⊎ IsLowEnough asked.target (place_at net q) (extra_at asked.place asked.extra q) c.loop-number.potentials c.lower.new.potentials =
    rw (c.further_of-further.ensures, item) at (c.lower.ensures.lowered (search rules)) in
    lowering_on net asked.target asked.place asked.extra c.args.most c.args.potentials.now c.loop-number.potentials c.lower.new.potentials q c.places-place-items.ensures.rules l
    c.loop-number.invariant step

pub returns-then-not-lower-clause-never : goal.returns-then-not-lower-clause-never
returns-then-not-lower-clause-never c = λ _ enough.
    let asked = c.args.asked.now in
    let net = asked.net.now in
    let q : PlaceId = record { index = c.loop-number.number } in
    let l : q.index < length net.places = rw c.places-place-items.ensures.value at c.loop-number-test.true in
    let item : c.place-item.result ≡ place_at net q = read_place net c.places-place-items.result.now q c.place-item.result c.places-place-items.ensures.value l c.place-item.is in
    let past : IsPastLimit asked.target (place_at net q) (extra_at asked.place asked.extra q) c.loop-number.potentials =
    rw (c.further_of-further.ensures, item) at (c.lower.ensures.past (search rules)) in
    past_never net asked.target asked.place asked.extra c.args.most c.loop-number.potentials q c.places-place-items.ensures.rules c.requires.target l
    c.loop-number.invariant.are past enough

pub returns-clause-more : goal.returns-clause-more
returns-clause-more c = λ _.
    let asked = c.args.asked.now in
    let net = asked.net.now in
    let all : length net.places ≤ c.loop-number.number =
    (let long = ap (λ z. length z) c.places-place-items.ensures.value in omega (arith, c.loop-number-test.false, c.loop-number.auto.number-end, long)) in
    lowering_over net asked.target asked.place asked.extra c.args.most c.args.potentials.now c.loop-number.potentials c.loop-number.number c.places-place-items.ensures.rules
    c.requires.are c.loop-number.invariant all
