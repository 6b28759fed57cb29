use Rattle.dioid_spectra.specs.MatrixRows.{AreEven, row_lists}
use Rattle.dioid_spectra.proofs.rows.check_even.Given as goal

abbrev pub invariant-loop-row : goal.invariant-loop-row
invariant-loop-row g l = AreEven (row_lists l.rows) l.row
