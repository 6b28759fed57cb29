use Rattle.std.proofs.Common.{◌/◌, ◌%◌}
use Rattle.dioid_matrix.specs.Products.{CellFits}
use Rattle.dioid_matrix.specs.Sums.{dot}
use Rattle.dioid_matrix.specs.Tables.{entry_of}
use Rattle.dioid_matrix.proofs.products.products.Given as goal
use Rattle.dioid_matrix.proofs.Filled.{HoldsEach}

abbrev pub invariant-loop-place : goal.invariant-loop-place
invariant-loop-place g l =
    let d = g.D.Dioid in
    let a = entry_of d l.left in
    let b = entry_of d l.right in
    HoldsEach d l.place (λ place. CellFits d l.left.columns a b (place / l.columns) (place % l.columns))
    (λ place. dot d l.left.columns (a (place / l.columns)) (λ k. b k (place % l.columns))) l.values.items
