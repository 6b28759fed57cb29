use Rattle.std.proofs.Common.{ℕ, ◌<◌, get_or}
use Rattle.teg_due.specs.declared.rows.DueRow.{DueRow}
use Rattle.dating_certificates.specs.CheckedRows.{date_in_rows}
use Rattle.dating_check.specs.FirstLate.{KeepsRow}
use Rattle.dating_check.proofs.first_late.first_unkept.Given as goal

abbrev pub invariant-loop-index : goal.invariant-loop-index
invariant-loop-index l = (j : ℕ) (q : DueRow) → j < l.index → KeepsRow (date_in_rows l.width l.dates) (get_or l.rows j q)
