use Rattle.std.proofs.Common.{◌/◌, ◌%◌}
use Rattle.dioid_matrix.specs.Sums.{EntrySumFits}
use Rattle.dioid_matrix.specs.Tables.{entry_of, table_of}
use Rattle.dioid_matrix.proofs.lists.sums.Given as goal
use Rattle.dioid_matrix.proofs.Filled.{HoldsEach}

abbrev pub invariant-loop-place : goal.invariant-loop-place
invariant-loop-place g l =
    let d = g.D.Dioid in
    let a = table_of l.rows l.columns l.left in
    let b = table_of l.rows l.columns l.right in
    HoldsEach d l.place (λ place. EntrySumFits d a b (place / l.columns) (place % l.columns))
    (λ place. d.sum (entry_of d a (place / l.columns) (place % l.columns)) (entry_of d b (place / l.columns) (place % l.columns))) l.values.items
