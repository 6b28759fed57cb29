use Rattle.std.proofs.Common.{◌≡◌}
use Rattle.series_laws.specs.SeriesForms.{table, value_at}
use Rattle.series_laws.specs.Pointwise.{sum_at}
use Rattle.series_form.proofs.pointwise.sum_values.Given as goal

abbrev pub invariant-loop-shift : goal.invariant-loop-shift
invariant-loop-shift l = l.values.items ≡ table (sum_at (value_at l.first) (value_at l.second)) l.shift
