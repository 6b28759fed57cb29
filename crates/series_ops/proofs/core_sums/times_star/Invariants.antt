use Rattle.std.proofs.Common.{◌≡◌, length}
use Rattle.series_ops.specs.ListFunctions.{value_listed}
use Rattle.series_ops.specs.Strides.{IsStarSums}
use Rattle.series_ops.proofs.core_sums.times_star.Given as goal

abbrev pub invariant-loop-place : goal.invariant-loop-place
invariant-loop-place l = (length l.values ≡ l._place) × IsStarSums (value_listed l.list) (value_listed l.values) l.stride.shifts l.stride.gain l._place
