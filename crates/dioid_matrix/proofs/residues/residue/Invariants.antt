use Rattle.std.proofs.Common.{◌≡◌, ◌<◌, ℕ}
use Rattle.dioid_matrix.specs.Residuals.{meet_below, lefts, RowFits}
use Rattle.dioid_matrix.specs.Tables.{entry_of}
use Rattle.dioid_matrix.proofs.residues.residue.Given as goal

abbrev pub invariant-loop-row : goal.invariant-loop-row
invariant-loop-row g l =
    let d = g.D.Dioid in
    let s = g.D.Residuated in
    let a = λ (i : ℕ). entry_of d l.left i l.column in
    let b = λ (i : ℕ). entry_of d l.right i l.other in
    record {
      value : l.meet ≡ meet_below s (lefts d s a b) l.row;
      element : d.is_element l.meet;
      fit : (i : ℕ) → i < l.row → RowFits d s a b i;
    }
