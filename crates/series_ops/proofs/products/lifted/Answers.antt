use Rattle.std.proofs.Common.{◌≤◌, ◌*◌, arith}
use Rattle.series_form.specs.SeriesLimits.{most_covering_shifts}
use Rattle.series_ops.proofs.products.lifted.Goals as goal

pub overflow_mul-covers : goal.overflow_mul-covers
overflow_mul-covers c =
    let low : c.lifts.result * c.common_period.result ≤ most_covering_shifts = rw c.common_period.ensures.value c.lifts.ensures.covers in
    omega arith
