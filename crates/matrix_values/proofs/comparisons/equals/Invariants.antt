use Rattle.matrix_values.proofs.SameTables.{AreSameEntries}
use Rattle.matrix_values.proofs.comparisons.equals.Given as goal

abbrev pub invariant-loop-place : goal.invariant-loop-place
invariant-loop-place g l = AreSameEntries g.D.Dioid l.left l.right l.place
