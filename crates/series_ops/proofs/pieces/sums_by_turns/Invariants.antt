use Rattle.std.proofs.Common.{◌≡◌, ◌≤◌, ◌+◌, ◌*◌, length}
use Rattle.std.specs.Prelude.{min}
use Rattle.series_laws.specs.SeriesForms.{table}
use Rattle.series_ops.specs.ListFunctions.{value_listed}
use Rattle.series_ops.specs.Pieces.{window}
use Rattle.series_ops.proofs.pieces.sums_by_turns.Given as goal

abbrev pub invariant-loop-turn : goal.invariant-loop-turn
invariant-loop-turn l = (l.sums.items ≡ table (window (value_listed l.first) (value_listed l.second) l.from (l.piece.size * l.done)) (length l.second))
    × (l.done ≤ l.piece.turns) × (min (l._turn + 1) l.piece.turns ≤ l.done)
