use Rattle.std.proofs.Common.{◌<◌, ◌≤◌, ◌≡◌, arith, ⊎_elim}
use Rattle.std.proofs.lemmas.Bool.{cases_lt}
use Rattle.teg_settle.proofs.witness.PeriodTest.moved_past.Goals as goal

pub loop-number-preserved : goal.loop-number-preserved
loop-number-preserved c =
    let n = c.loop-number.number in
    let here = c.is_moved.ensures.0 c.if-not-is_moved.false in
    record {
      within = omega arith;
      moved = λ k l m. ⊎_elim
          (λ (q : n < k). c.loop-number.invariant.moved k q m)
          (λ (q : k ≤ n). let is : k ≡ n = omega (arith, c.loop-number-test.true) in rw is here)
          (cases_lt n k);
    }
