use Rattle.std.proofs.Common.{◌≡◌, map}
use Rattle.series_ops.specs.Cells.{date_of_short_cell}
use Rattle.series_ops.specs.ListFunctions.{value_listed}
use Rattle.series_ops.specs.Splits.{greatest_from, split_of}
use Rattle.series_ops.proofs.cells.greatest_short.Given as goal

abbrev pub invariant-loop-place : goal.invariant-loop-place
invariant-loop-place l = date_of_short_cell l.best
    ≡ greatest_from (split_of (value_listed (map date_of_short_cell l.first)) (value_listed (map date_of_short_cell l.second)) l.at.shift) l.at.from l.place
