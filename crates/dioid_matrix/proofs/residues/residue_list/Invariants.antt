use Rattle.std.proofs.Common.{◌/◌, ◌%◌}
use Rattle.dioid_matrix.specs.Residuals.{residual_of, ResidueFits}
use Rattle.dioid_matrix.specs.Tables.{entry_of}
use Rattle.dioid_matrix.proofs.residues.residue_list.Given as goal
use Rattle.dioid_matrix.proofs.Filled.{HoldsEach}

abbrev pub invariant-loop-place : goal.invariant-loop-place
invariant-loop-place g l =
    let d = g.D.Dioid in
    let s = g.D.Residuated in
    let a = entry_of d l.left in
    let b = entry_of d l.right in
    HoldsEach d l.place (λ place. ResidueFits d s l.left.rows a b (place / l.columns) (place % l.columns))
    (λ place. residual_of d s l.left.rows a b (place / l.columns) (place % l.columns)) l.values.items
