use Rattle.std.proofs.Common.{ℕ, ◌<◌, ◌≡◌, length, get_or}
use Rattle.dioid.specs.declared.dates.Date.TheVariants.{Early}
use Rattle.dating_certificates.specs.CheckedRows.{date_in_rows}
use Rattle.dating_certificates.proofs.rows.is_row.Given as goal

abbrev pub invariant-loop-index : goal.invariant-loop-index
invariant-loop-index l = (t : ℕ) → t < l.index → get_or l.row t Early ≡ date_in_rows (length l.row) l.dates t l.number
