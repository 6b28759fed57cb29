use Rattle.teg_parts.proofs.Marks.{unmarked}
use Rattle.matrix_values.specs.RowReach.{AreReachedRows}
use Rattle.matrix_values.proofs.reach.reached.Given as goal

abbrev pub invariant-search : goal.invariant-search
invariant-search l = AreReachedRows l.a l.marks.items

abbrev pub decreases-search : goal.decreases-search
decreases-search l = unmarked l.marks.items
