use Rattle.std.proofs.Common.{◌≡◌}
use Rattle.series_laws.specs.SeriesForms.{table, value_at}
use Rattle.series_ops.proofs.tables.first_values.Given as goal

abbrev pub invariant-loop-shift : goal.invariant-loop-shift
invariant-loop-shift l = l.values.items ≡ table (value_at l.series) l.shift
