use Rattle.std.proofs.Common.{ℕ, ◌≡◌, ◌+◌, ◌-◌, ◌*◌, List, length, get_or, sym, ap, subst, ◌∙◌, arith}
use Rattle.std.proofs.lemmas.List.{get_or_default, length-set}
use Rattle.dioid.specs.declared.dates.Date.{Date}
use Rattle.dioid.specs.declared.dates.Date.TheVariants.{Early}
use Rattle.dioid.specs.Dates.{delayed, earlier_of}
use Rattle.teg_net.specs.declared.entries.Place.{Place}
use Rattle.teg_net.specs.Circuits.{no_place, place_at}
use Rattle.teg_net.specs.Nets.{IsPlaceOf}
use Rattle.teg_net.proofs.Reading.{read_place}
use Rattle.dating_certificates.specs.CheckedRows.{date_up_to}
use Rattle.dating_check.specs.declared.back_order.Placed.{Placed}
use Rattle.dating_check.specs.MadeRows.{AreFrom, AreKept, IsMade, date_index, greatest_fall}
use Rattle.dating_check.proofs.Lowering.{all_weaker, held_from, lowered, lowered_from, room_for, up_to_from}
use Rattle.dating_check.proofs.MadeRows.{number_passed, place_passed}
use Rattle.dating_check.proofs.made_rows.pass_places.Goals as goal

abbrev none_placed : Placed
none_placed = record { depth = 0; place = record { index = 0 } }

pub hold_before-requires-clause-date : goal.hold_before-requires-clause-date
hold_before-requires-clause-date c =
    let net = c.args.net.now in
    let w : ℕ = length net.transitions in
    let n = c.args.numbers in
    let k = c.args.number in
    let i = c.loop-placed.placed-index in
    let l = c.loop-placed-test.true in
    let dates = c.loop-placed.dates in
    let kept = c.loop-placed.invariant in
    let ok = c.places-places.ensures.rules in
    let o : Placed = get_or c.args.order.now i none_placed in
    let p : Place = place_at net o.place in
    let known = c.requires.order.back.known i none_placed l in
    let item : c.index-places-index.result ≡ p = read_place net c.places-places.result.now o.place c.index-places-index.result c.places-places.ensures.value known.in_range (rw c.index.ensures at c.index-places-index.is) in
    let rules : IsPlaceOf net p = ok.each_place o.place.index no_place known.in_range in
    let onward : c.date_of-onward.result ≡ date_up_to n w dates p.to.index (k + p.tokens) =
    rw (c.index-in-loop-placed.ensures, c.from.ensures, c.from-in-loop-placed.ensures, c.transitions-width.ensures.value, item) at c.date_of-onward.ensures in
    let room = c.requires.from in
    let few = ok.few_places in
    rw onward (room_for (room.0 + i * 1000000000) greatest_fall (date_up_to n w dates p.to.index (k + p.tokens)) (omega (arith, room.1, few, l, c.requires.order.few))
    (up_to_from w n dates (room.0 + i * 1000000000) p.to.index (k + p.tokens) kept.full rules.to_in (omega (arith, c.requires.number.first)) (kept.from room.0 room.2)))

pub loop-placed-preserved : goal.loop-placed-preserved
loop-placed-preserved c =
    let net = c.args.net.now in
    let w : ℕ = length net.transitions in
    let n = c.args.numbers in
    let k = c.args.number in
    let order = c.args.order.now in
    let i = c.loop-placed.placed-index in
    let l = c.loop-placed-test.true in
    let dates = c.loop-placed.dates in
    let kept = c.loop-placed.invariant in
    let ok = c.places-places.ensures.rules in
    let o : Placed = get_or order i none_placed in
    let p : Place = place_at net o.place in
    let known = c.requires.order.back.known i none_placed l in
    let item : c.index-places-index.result ≡ p = read_place net c.places-places.result.now o.place c.index-places-index.result c.places-places.ensures.value known.in_range (rw c.index.ensures at c.index-places-index.is) in
    let rules : IsPlaceOf net p = ok.each_place o.place.index no_place known.in_range in
    let onward : c.date_of-onward.result ≡ date_up_to n w dates p.to.index (k + p.tokens) =
    rw (c.index-in-loop-placed.ensures, c.from.ensures, c.from-in-loop-placed.ensures, c.transitions-width.ensures.value, item) at c.date_of-onward.ensures in
    let d : Date = c.hold_before.result in
    let before : delayed p.hold d ≡ c.date_of-onward.result = rw item at c.hold_before.ensures in
    let held : delayed p.hold d ≡ date_up_to n w dates p.to.index (k + p.tokens) = before ∙ onward in
    let new : c.lower.new.dates ≡ lowered w dates p.from.index k d = rw (c.cell_of-cell.ensures, c.index-in-loop-placed-2.ensures, c.transitions-width.ensures.value, item) at c.lower.ensures in
    record {
      full = ap length new ∙ (length-set dates (date_index w p.from.index k) (earlier_of (get_or dates (date_index w p.from.index k) Early) d) ∙ kept.full);
      made = λ rows y latest h. subst (λ (ds : List Date). IsMade net rows n k w y ds × AreKept net order n k (i + 1) y ds) (sym new)
          (place_passed net rows c.requires.order.ranks order n k i y dates o d kept.full c.requires.number.first c.requires.number.last ok latest c.requires.order.rises c.requires.order.back l
          (λ e. get_or_default order i e none_placed l) held (kept.made rows y latest h));
      from = λ fall h.
          let more : fall + i * 1000000000 + 1000000000 ≡ fall + (i + 1) * 1000000000 = omega arith in
          let old : AreFrom (fall + i * 1000000000) dates = kept.from fall h in
          subst (AreFrom (fall + (i + 1) * 1000000000)) (sym new)
          (lowered_from w n dates (fall + (i + 1) * 1000000000) p.from.index k d kept.full rules.from_in c.requires.number.first c.requires.number.last
          (all_weaker (fall + i * 1000000000) (fall + (i + 1) * 1000000000) dates (omega arith) old)
          (rw (← more) (held_from (fall + i * 1000000000) p.hold d (date_up_to n w dates p.to.index (k + p.tokens)) held rules.hold_in
          (up_to_from w n dates (fall + i * 1000000000) p.to.index (k + p.tokens) kept.full rules.to_in (omega (arith, c.requires.number.first)) old))));
    }

pub returns-clause-made : goal.returns-clause-made
returns-clause-made c = λ rows y latest h.
    let net = c.args.net.now in
    let w : ℕ = length net.transitions in
    let n = c.args.numbers in
    let k = c.args.number in
    let order = c.args.order.now in
    let dates = c.loop-placed.dates in
    let end : c.loop-placed.placed-index ≡ length order = omega (arith, c.loop-placed-test.false, c.loop-placed.auto.placed-index-end) in
    let both = c.loop-placed.invariant.made rows y latest h in
    number_passed net rows c.requires.order.ranks order n k y dates c.loop-placed.invariant.full c.requires.number.first c.requires.number.last c.places-places.ensures.rules latest c.requires.order.back
    (both.0, subst (λ (i : ℕ). AreKept net order n k i y dates) end both.1)

pub returns-clause-from : goal.returns-clause-from
returns-clause-from c = λ fall h.
    let few = c.places-places.ensures.rules.few_places in
    let i = c.loop-placed.placed-index in
    all_weaker (fall + i * 1000000000) (fall + 4000000000000) c.loop-placed.dates (omega (arith, few, c.requires.order.few, c.loop-placed.auto.placed-index-end)) (c.loop-placed.invariant.from fall h)
