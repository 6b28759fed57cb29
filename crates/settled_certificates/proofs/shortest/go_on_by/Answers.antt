use Rattle.std.proofs.Common.{◌<◌, ◌≤◌, ◌≡◌, false, true, arith, ⊎_elim}
use Rattle.std.proofs.lemmas.Bool.{false≢true, iff_false, cases_lt}
use Rattle.settled_certificates.proofs.shortest.go_on_by.Goals as goal

pub returns-then-not-has_step : goal.returns-then-not-has_step
returns-then-not-has_step c = (
  λ (e : false ≡ true). absurd (false≢true e),
  λ h.
      let g = h c.loop-index.index (omega (arith, c.loop-index-test.true, c.width-index-end.ensures.value)) in
      absurd (iff_false c.has_step.ensures c.if-not-has_step.true (g.0, (c.steps_of_row.ensures g.0).1 g.1)),
)

pub loop-index-preserved : goal.loop-index-preserved
loop-index-preserved c = λ t l. ⊎_elim
    (λ (q : t < c.loop-index.index). c.loop-index.invariant t q)
    (λ (q : c.loop-index.index ≤ t).
    let is : t ≡ c.loop-index.index = omega (arith, q, l) in
    let s = c.has_step.ensures.0 c.if-not-has_step.false in
    rw is (s.0, (c.steps_of_row.ensures s.0).0 s.1))
    (cases_lt t c.loop-index.index)
