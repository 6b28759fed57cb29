use Rattle.std.proofs.Common.{◌≤◌}
use Rattle.series_ops.proofs.pieces.is_short_in_pieces.Given as goal

abbrev pub invariant-loop-place : goal.invariant-loop-place
invariant-loop-place l = (l.done ≤ l.count) × (l.work ≤ 2000000)
