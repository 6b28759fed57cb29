use Rattle.std.proofs.Common.{◌/◌, ◌%◌}
use Rattle.dioid_matrix.specs.MatrixStars.{through}
use Rattle.dioid_matrix.specs.Tables.{entry_of, table_of}
use Rattle.dioid_matrix.specs.Turns.{EntryFits}
use Rattle.dioid_matrix.proofs.passes.eliminated.Given as goal
use Rattle.dioid_matrix.proofs.Filled.{HoldsEach}

abbrev pub invariant-loop-place : goal.invariant-loop-place
invariant-loop-place g l =
    let d = g.D.Dioid in
    let s = g.D.Kleene in
    let r = entry_of d (table_of l.size l.size l.entries) in
    HoldsEach d l.place (λ place. EntryFits d s r l.k (place / l.size) (place % l.size)) (λ place. through d s r l.k (place / l.size) (place % l.size)) l.values.items
