use Rattle.std.proofs.Common.{◌<◌, ◌≤◌, ◌≡◌, arith, rules, ⊎_elim, to_z, of_z}
use Rattle.std.specs.Prelude.{FitsSigned}
use Rattle.std.specs.Int.{w128}
use Rattle.std.proofs.lemmas.Int.{to_z-of_z}
use Rattle.std.proofs.lemmas.Bool.{cases_lt}
use Rattle.own_periods.proofs.periods.own_period.Goals as goal

pub loop-period-preserved : goal.loop-period-preserved
loop-period-preserved c = λ p o l.
    let n = c.loop-period.period in
    let fits : FitsSigned w128 c.step_in-step.result = search rules in
    let step_is : to_z w128 (of_z w128 c.step_in-step.result) ≡ c.step_in-step.result = to_z-of_z w128 c.step_in-step.result fits in
    let bad = rw (step_is, c.step_in-step.ensures.value) at (rw c.in-Some.is at c.apart.ensures) in
    ⊎_elim
    (λ (q : p < n). c.loop-period.invariant p o q)
    (λ (q : n ≤ p).
    let is : p ≡ n = omega (arith, q, l) in
    rw is bad)
    (cases_lt p n)
