use Rattle.std.proofs.Common.{◌≡◌, ◌≤◌, length}
use Rattle.series_laws.specs.SeriesForms.{table}
use Rattle.series_ops.specs.ListFunctions.{value_listed}
use Rattle.series_ops.specs.Pieces.{window}
use Rattle.series_ops.proofs.pieces.sums_by_pieces.Given as goal

abbrev pub invariant-loop-place : goal.invariant-loop-place
invariant-loop-place l = (l.sums.items ≡ table (window (value_listed l.first) (value_listed l.second) l.span.from l.done) (length l.second))
    × (l.done ≤ l.span.count) × (l._place ≤ l.done)
