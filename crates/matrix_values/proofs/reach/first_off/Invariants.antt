use Rattle.std.proofs.Common.{ℕ, ◌<◌}
use Rattle.matrix_values.specs.RowReach.{IsMarkedRow}
use Rattle.matrix_values.proofs.reach.first_off.Given as goal

abbrev pub invariant-loop-row : goal.invariant-loop-row
invariant-loop-row l = (i : ℕ) → i < l.row → IsMarkedRow l.marks i
