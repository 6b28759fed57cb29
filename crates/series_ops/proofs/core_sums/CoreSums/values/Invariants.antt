use Rattle.std.proofs.Common.{◌≡◌}
use Rattle.series_laws.specs.SeriesForms.{table, value_at}
use Rattle.series_laws.specs.Product.{product_at}
use Rattle.series_ops.specs.ListFunctions.{value_listed}
use Rattle.series_ops.proofs.core_sums.CoreSums.values.Given as goal

abbrev pub invariant-loop-shift : goal.invariant-loop-shift
invariant-loop-shift l = l.values.items ≡ table (product_at (value_at l.self.form) (value_listed l.self.list)) l.shift
