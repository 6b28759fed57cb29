use Rattle.std.proofs.Common.{◌≡◌, ◌≤◌, ◌+◌, ◌*◌, ap, ap₂, arith}
use Rattle.series_laws.specs.SeriesForms.{size_of, repeat_start}
use Rattle.series_laws.specs.Needs.{plan, period_with}
use Rattle.series_laws.specs.ProductNeeds.{lifts_of, waits_of}
use Rattle.series_form.specs.SeriesLimits.{greatest_height, greatest_reach}
use Rattle.series_ops.proofs.ProductPlans.{waited_shifts}
use Rattle.series_ops.proofs.products.plan_past_waits.Goals as goal

pub overflow_mul-waited : goal.overflow_mul-waited
overflow_mul-waited c =
    let low : c.waits.result * c.common_period.result ≤ greatest_height = waited_shifts c.waits.result c.common_period.result c.waits.ensures.bound c.common_period.ensures.bound in
    omega arith

pub returns-clause-value : goal.returns-clause-value
returns-clause-value c =
    let f = c.args.first.now in
    let g = c.args.second.now in
    let from : c.lifted.result + c.waits.result * c.common_period.result ≡ size_of f + repeat_start g + (lifts_of f g * period_with f g + waits_of f g * period_with f g) =
    rw (c.lifted.ensures.value, c.waits.ensures.value, c.common_period.ensures.value) (omega arith) in
    ap₂ plan from c.period.ensures.value

pub returns-clause-bound : goal.returns-clause-bound
returns-clause-bound c =
    let low : c.waits.result * c.common_period.result ≤ greatest_height = waited_shifts c.waits.result c.common_period.result c.waits.ensures.bound c.common_period.ensures.bound in
    omega (arith, c.lifted.ensures.bound)
