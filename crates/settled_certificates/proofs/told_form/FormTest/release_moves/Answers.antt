use Rattle.std.proofs.Common.{◌≡◌, ◌<◌, ◌≤◌, refl, arith, ⊎_elim}
use Rattle.std.proofs.lemmas.Bool.{cases_lt}
use Rattle.settled_certificates.proofs.ToldForms.{release_goes_on}
use Rattle.settled_certificates.proofs.told_form.FormTest.release_moves.Goals as goal

pub loop-number-preserved : goal.loop-number-preserved
loop-number-preserved c = λ k a l. ⊎_elim
    (λ (q : k < c.loop-number.number). c.loop-number.invariant k a q)
    (λ (q : c.loop-number.number ≤ k). let is : k ≡ c.loop-number.number = omega (arith, q, l) in rw is (c.release_moves_at.ensures.0 c.if-not-release_moves_at.false))
    (cases_lt k c.loop-number.number)

pub returns : goal.returns
returns c = (
  λ yes.
      release_goes_on c.args.self.now c.args.transition.index c.span_of-long.result.0 c.span_of-long.result.1 (rw c.net.ensures at c.span_of-long.ensures)
      (λ k a m. c.loop-number.invariant k a (omega (arith, m, c.loop-number-test.false, c.numbers-after.ensures.after))),
  λ h. refl,
)
