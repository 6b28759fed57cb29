use Rattle.std.proofs.Common.{◌≡◌}
use Rattle.series_laws.specs.SeriesForms.{table}
use Rattle.series_ops.specs.ListFunctions.{value_listed}
use Rattle.series_ops.proofs.cells.dates_of.Given as goal

abbrev pub invariant-loop-place : goal.invariant-loop-place
invariant-loop-place l = l.dates.items ≡ table (value_listed l.cells) l.place
