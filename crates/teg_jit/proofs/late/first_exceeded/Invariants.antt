use Rattle.std.proofs.Common.{ℕ, ◌<◌, ◌≤◌, length, get_or}
use Rattle.teg_due.specs.declared.rows.DueRow.{DueRow}
use Rattle.teg_jit.proofs.late.first_exceeded.Given as goal

abbrev pub invariant-loop-index : goal.invariant-loop-index
invariant-loop-index l = (j : ℕ) (q : DueRow) → j < length l.rows → j < l.index → get_or l.dates j 0 ≤ (get_or l.rows j q).date
