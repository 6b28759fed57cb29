use Rattle.dioid_spectra.specs.Eigenvectors.{IsRowWithin}
use Rattle.dioid_spectra.proofs.eigenvectors.is_row_within.Given as goal

abbrev pub invariant-loop-column : goal.invariant-loop-column
invariant-loop-column l = IsRowWithin l.a l.steps l.vector l.row l.wanted l.column
