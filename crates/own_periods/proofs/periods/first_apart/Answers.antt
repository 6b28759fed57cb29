use Rattle.std.proofs.Common.{◌<◌, ◌≤◌, ◌≡◌, arith, ⊎_elim}
use Rattle.std.proofs.lemmas.Bool.{cases_lt}
use Rattle.own_periods.proofs.periods.first_apart.Goals as goal

pub loop-number-preserved : goal.loop-number-preserved
loop-number-preserved c = λ k a b.
    let n = c.loop-number.number in
    ⊎_elim
    (λ (q : k < n). c.loop-number.invariant k a q)
    (λ (q : n ≤ k).
    let is : k ≡ n = omega (arith, q, b) in
    rw is (c.is_moved.ensures.0 c.if-not-is_moved.false))
    (cases_lt k n)
