use Rattle.std.proofs.Common.{◌≡◌, ◌<◌, ◌+◌, ℕ}
use Rattle.dioid.specs.Dates.{move}
use Rattle.series_ops.specs.ListFunctions.{value_listed}
use Rattle.series_ops.proofs.pieces.piece_from.Given as goal

abbrev pub invariant-loop-place : goal.invariant-loop-place
invariant-loop-place l = (i : ℕ) → i < l.place → value_listed l.first (l.from + (i + l.size)) ≡ move l.step (value_listed l.first (l.from + i))
