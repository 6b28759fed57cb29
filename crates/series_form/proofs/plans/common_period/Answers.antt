use Rattle.std.proofs.Common.{◌<◌, arith}
use Rattle.std.proofs.Math.Nat.{mul-pos}
use Rattle.series_form.proofs.plans.common_period.Goals as goal

pub returns-clause-positive : goal.returns-clause-positive
returns-clause-positive c =
    let a = c.period-3.ensures.series.canonical.form.period_positive in
    let b = c.period-3.ensures.value in
    let some : 0 < c.period-3.result = omega arith in
    mul-pos c.turns_between.ensures.positive some
