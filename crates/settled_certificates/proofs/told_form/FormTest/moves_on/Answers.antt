use Rattle.std.proofs.Common.{◌≡◌, ◌<◌, ◌≤◌, refl, ap, arith, ⊎_elim}
use Rattle.std.proofs.lemmas.Bool.{cases_lt}
use Rattle.settled_certificates.proofs.told_form.FormTest.moves_on.Goals as goal

pub loop-number-preserved : goal.loop-number-preserved
loop-number-preserved c = λ k a l. ⊎_elim
    (λ (q : k < c.loop-number.number). c.loop-number.invariant k a q)
    (λ (q : c.loop-number.number ≤ k). let is : k ≡ c.loop-number.number = omega (arith, q, l) in rw is (c.moves_at.ensures.0 c.if-not-moves_at.false))
    (cases_lt k c.loop-number.number)

pub returns : goal.returns
returns c = (
  λ yes k a l.
      let numbers = c.numbers.ensures in
      let told = ap (λ f. f.told.numbers) c.self.view_is in
      let period = ap (λ f. f.period) c.self.view_is in
      let room = c.self.invariant.room in
      c.loop-number.invariant k a (omega (arith, l, c.loop-number-test.false, numbers, told, period, room)),
  λ h. refl,
)
