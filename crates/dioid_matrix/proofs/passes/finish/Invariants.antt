use Rattle.std.proofs.Common.{◌/◌, ◌%◌}
use Rattle.dioid_matrix.specs.EntryLists.{last_entry_of}
use Rattle.dioid_matrix.specs.Tables.{entry_of, table_of}
use Rattle.dioid_matrix.specs.Turns.{LastFits}
use Rattle.dioid_matrix.proofs.passes.finish.Given as goal
use Rattle.dioid_matrix.proofs.Filled.{HoldsEach}

abbrev pub invariant-loop-place : goal.invariant-loop-place
invariant-loop-place g l =
    let d = g.D.Dioid in
    let r = entry_of d (table_of l.size l.size l.entries) in
    HoldsEach d l.place (λ place. LastFits d r (place / l.size) (place % l.size)) (λ place. last_entry_of d r (place / l.size) (place % l.size)) l.values.items
