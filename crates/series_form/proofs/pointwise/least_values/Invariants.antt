use Rattle.std.proofs.Common.{◌≡◌}
use Rattle.series_laws.specs.SeriesForms.{table, value_at}
use Rattle.series_laws.specs.Pointwise.{least_at}
use Rattle.series_form.proofs.pointwise.least_values.Given as goal

abbrev pub invariant-loop-shift : goal.invariant-loop-shift
invariant-loop-shift l = l.values.items ≡ table (least_at (value_at l.first) (value_at l.second)) l.shift
