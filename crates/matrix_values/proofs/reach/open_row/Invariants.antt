use Rattle.std.proofs.Common.{ℕ, ◌<◌, ◌≡◌, false, get_or}
use Rattle.matrix_values.specs.RowReach.{HasMarkedColumn}
use Rattle.matrix_values.proofs.reach.open_row.Given as goal

abbrev pub invariant-loop-row : goal.invariant-loop-row
invariant-loop-row l = (i : ℕ) → i < l.row → get_or l.marks i false ≡ false → HasMarkedColumn l.a l.marks i → ⊥
