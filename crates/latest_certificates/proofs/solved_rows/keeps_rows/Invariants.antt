use Rattle.std.proofs.Common.{ℕ, ◌<◌, get_or}
use Rattle.teg_due.specs.declared.rows.DueRow.{DueRow}
use Rattle.latest_certificates.specs.SolvedRows.{IsRowKept}
use Rattle.latest_certificates.proofs.solved_rows.keeps_rows.Given as goal

abbrev pub invariant-loop-row : goal.invariant-loop-row
invariant-loop-row l = (i : ℕ) → i < l.row-index → (d : DueRow) → IsRowKept l.told (get_or l.rows i d)
