use Rattle.std.proofs.Common.{◌≡◌, ◌-◌, drop, length}
use Rattle.series_ops.specs.Cells.{conjugates_reversed}
use Rattle.series_ops.proofs.cells.conjugates_back.Given as goal

abbrev pub invariant-loop-place : goal.invariant-loop-place
invariant-loop-place l = conjugates_reversed l.cells ≡ drop (length l.dates - l.place) l.dates
