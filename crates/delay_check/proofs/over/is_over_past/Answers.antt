use Rattle.std.proofs.Common.{◌+◌, ◌<◌, ◌≤◌, ◌≡◌, arith, ⊎_elim}
use Rattle.std.proofs.lemmas.Bool.{cases_lt}
use Rattle.delay_check.proofs.over.is_over_past.Goals as goal

pub loop-before-preserved : goal.loop-before-preserved
loop-before-preserved c = λ i k l m o.
    ⊎_elim
    (λ (here : c.loop-before.before < k).
    let at : k ≡ c.loop-before.before + 1 = omega (arith, here, o) in
    rw at (c.is_late_at.ensures.none c.if-is_late_at.false i l))
    (λ (near : k ≤ c.loop-before.before). c.loop-before.invariant i k l m near)
    (cases_lt c.loop-before.before k)
