use Rattle.std.proofs.Common.{◌≡◌}
use Rattle.series_laws.specs.SeriesForms.{table}
use Rattle.series_laws.specs.ProductNeeds.{left_over}
use Rattle.series_ops.proofs.residuals.LeftPlan.values.Given as goal

abbrev pub invariant-loop-shift : goal.invariant-loop-shift
invariant-loop-shift l = l.values.items ≡ table (left_over l.self.first l.self.second) l._shift
