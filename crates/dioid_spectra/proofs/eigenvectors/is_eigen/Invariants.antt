use Rattle.std.proofs.Common.{ℕ, ◌<◌}
use Rattle.dioid_spectra.specs.Eigenvectors.{IsRowOf}
use Rattle.dioid_spectra.proofs.eigenvectors.is_eigen.Given as goal

abbrev pub invariant-loop-row : goal.invariant-loop-row
invariant-loop-row l = (i : ℕ) → i < l.row → IsRowOf l.a l.value l.vector i
