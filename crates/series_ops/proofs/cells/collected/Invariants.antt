use Rattle.std.proofs.Common.{◌≡◌, take}
use Rattle.series_ops.proofs.cells.collected.Given as goal

abbrev pub invariant-loop-place : goal.invariant-loop-place
invariant-loop-place l = l.cells ≡ take l.place l.dates
