use Rattle.std.proofs.Common.{◌<◌, ◌≤◌, ◌≡◌, arith, ⊎_elim}
use Rattle.std.proofs.lemmas.Bool.{cases_lt}
use Rattle.settled_certificates.proofs.shortest.steps_of_row.Goals as goal

pub loop-number-preserved : goal.loop-number-preserved
loop-number-preserved c = λ step.
    let old = c.loop-number.invariant step in
    let both = c.left_by_both-left.ensures step in
    let here = rw (c.date.ensures, c.date-late.ensures) at (c.steps_between.ensures step) in (
      λ h k a l. ⊎_elim
          (λ (q : k < c.loop-number.number). old.0 (both.0 h).0 k a q)
          (λ (q : c.loop-number.number ≤ k). let is : k ≡ c.loop-number.number = omega (arith, q, l) in rw is (here.0 (both.0 h).1))
          (cases_lt k c.loop-number.number),
      λ h. both.1 (old.1 (λ k a l. h k a (omega (arith, l))), here.1 (h c.loop-number.number (omega arith) (omega arith))),
    )
