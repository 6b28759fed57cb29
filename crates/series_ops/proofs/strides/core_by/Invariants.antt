use Rattle.std.proofs.Common.{◌≡◌, length}
use Rattle.series_ops.specs.ListFunctions.{value_listed}
use Rattle.series_ops.specs.Strides.{AreCore}
use Rattle.series_ops.proofs.strides.core_by.Given as goal

abbrev pub invariant-loop-place : goal.invariant-loop-place
invariant-loop-place l = (length l.cells ≡ l.place) × AreCore (value_listed l.values) l.stride l.cells l.place
