use Rattle.std.proofs.Common.{◌<◌, ◌≤◌, ◌≡◌, sym, ap, ◌∙◌, arith, ⊎_elim}
use Rattle.std.proofs.lemmas.Bool.{cases_lt, false≢true}
use Rattle.std.proofs.lemmas.List.{get_or_read}
use Rattle.teg_net.specs.Circuits.{no_place}
use Rattle.teg_settle.specs.ComparedRows.{IsRisingPlace}
use Rattle.teg_settle.proofs.witness.PeriodTest.first_fall.Goals as goal

pub returns-then-not-rises_along : goal.returns-then-not-rises_along
returns-then-not-rises_along c = λ tests.
    let n = c.loop-place.place in
    let same : c.places-places.result.now ≡ c.args.self.now.net.places = c.places-places.ensures.value ∙ ap (λ v. v.net.places) c.self.view_is in
    let read = get_or_read c.places-places.result.now n c.index-places-place.result c.loop-place-test.true c.index-places-place.is no_place in
    let up = rw (← same, ← read) at (tests.rising n no_place (rw same at c.loop-place-test.true)) in
    false≢true (sym c.if-not-rises_along.true ∙ c.rises_along.ensures.1 up)

pub loop-place-preserved : goal.loop-place-preserved
loop-place-preserved c = λ i d l m.
    let n = c.loop-place.place in
    let same : c.places-places.result.now ≡ c.args.self.now.net.places = c.places-places.ensures.value ∙ ap (λ v. v.net.places) c.self.view_is in
    ⊎_elim
    (λ (q : i < n). c.loop-place.invariant i d l q)
    (λ (q : n ≤ i).
    let is : i ≡ n = omega arith in
    let here : IsRisingPlace c.args.self.now.rows c.args.self.now.period c.index-places-place.result = c.rises_along.ensures.0 c.if-not-rises_along.false in
    let read = get_or_read c.places-places.result.now n c.index-places-place.result c.loop-place-test.true c.index-places-place.is d in
    rw (is, ← same, ← read) here)
    (cases_lt i n)
