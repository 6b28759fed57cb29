use Rattle.dioid_matrix.specs.Tables.{entry_of, table_of}
use Rattle.dioid_matrix.specs.Turns.{loop_of, LoopFits}
use Rattle.dioid_matrix.proofs.passes.loops.Given as goal
use Rattle.dioid_matrix.proofs.Filled.{HoldsEach}

abbrev pub invariant-loop-column : goal.invariant-loop-column
invariant-loop-column g l =
    let d = g.D.Dioid in
    let s = g.D.Kleene in
    let r = entry_of d (table_of l.size l.size l.entries) in
    HoldsEach d l.column (λ j. LoopFits d s (r l.k l.k) (r l.k j)) (λ j. loop_of d s (r l.k l.k) (r l.k j)) l.loops.items
