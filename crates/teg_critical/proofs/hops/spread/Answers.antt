use Rattle.std.proofs.Common.{◌≡◌, ◌<◌, ◌≤◌, true, length, get_or, sym, ap, ◌∙◌, arith}
use Rattle.teg_net.specs.declared.entries.PlaceId.{PlaceId}
use Rattle.teg_net.specs.Nets.{IsPlaceOf}
use Rattle.teg_net.specs.Circuits.{no_place, place_at}
use Rattle.teg_net.proofs.Reading.{read_place}
use Rattle.teg_critical.proofs.HopLaws.{hop_small, spread_begins, spread_reached, spread_on, spread_over}
use Rattle.teg_critical.proofs.hops.spread.Goals as goal
use Rattle.teg_critical.proofs.hops.spread.Goals.{then-reach_end, else-reach_end}

pub loop-index-init : goal.loop-index-init
loop-index-init c = spread_begins c.args.net.now c.args.usable.now c.args.first c.args.hops.now c.requires.hops

pub reach_end-requires-clause-ends : goal.reach_end-requires-clause-ends
reach_end-requires-clause-ends c =
    let net = c.args.net.now in
    let q : PlaceId = record { index = c.loop-index.index } in
    let l : q.index < length net.places = rw c.places-place-items.ensures.value at c.loop-index-test.true in
    let item : c.place-item.result ≡ place_at net q = read_place net c.places-place-items.result.now q c.place-item.result c.places-place-items.ensures.value l c.place-item.is in
    let rules : IsPlaceOf net (place_at net q) = c.places-place-items.ensures.rules.each_place q.index no_place l in
    let from = rules.from_in in
    let to = rules.to_in in
    let count = c.loop-index.invariant.are.count in
    rw item (omega (arith, from, count), omega (arith, to, count))

pub reach_end-requires-clause-small : goal.reach_end-requires-clause-small
reach_end-requires-clause-small c = hop_small c.args.net.now c.args.usable.now c.args.first c.loop-index.hops c.loop-index.invariant.are _

pub loop-index-preserved : goal.loop-index-preserved
loop-index-preserved c =
    let net = c.args.net.now in
    let usable = c.args.usable.now in
    let q : PlaceId = record { index = c.loop-index.index } in
    let ok = c.places-place-items.ensures.rules in
    let l : q.index < length net.places = rw c.places-place-items.ensures.value at c.loop-index-test.true in
    let item : c.place-item.result ≡ place_at net q = read_place net c.places-place-items.result.now q c.place-item.result c.places-place-items.ensures.value l c.place-item.is in
    let mark : get_or usable q.index true ≡ c.may_use.result = sym c.may_use.ensures in
    elim c.if-reach_end.branch [
      | then-reach_end w ↦
          rw w.reached-is
          (spread_reached net ok usable c.args.first c.args.hops.now c.loop-index.hops q l c.loop-index.reached c.loop-index.invariant (mark ∙
          c.reach_end.ensures.usable w.if-reach_end.true) c.reach_end.new.hops
          (rw item at (c.reach_end.ensures.reached w.if-reach_end.true)))
      | else-reach_end w ↦
          rw (w.reached-is, c.reach_end.ensures.same w.if-reach_end.false)
          (spread_on net ok usable c.args.first c.args.hops.now c.loop-index.hops q l c.loop-index.reached c.loop-index.invariant (λ may. rw item at
          (c.reach_end.ensures.passed w.if-reach_end.false (sym mark ∙ may))))
    ]

pub returns-clause-hops : goal.returns-clause-hops
returns-clause-hops c = c.loop-index.invariant.are

pub returns-clause-fewer : goal.returns-clause-fewer
returns-clause-fewer c = c.loop-index.invariant.fewer

pub returns-clause-closed : goal.returns-clause-closed
returns-clause-closed c =
    let net = c.args.net.now in
    let all : length net.places ≤ c.loop-index.index =
    (let long = ap (λ z. length z) c.places-place-items.ensures.value in omega (arith, c.loop-index-test.false, c.loop-index.auto.index-end, long)) in
    spread_over net c.args.usable.now c.args.first c.args.hops.now c.loop-index.index c.loop-index.reached c.loop-index.hops c.loop-index.invariant all
