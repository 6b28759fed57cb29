use Rattle.matrix_values.proofs.MeetTables.{AreMeets}
use Rattle.matrix_values.proofs.meets.meet.Given as goal

abbrev pub invariant-loop-place : goal.invariant-loop-place
invariant-loop-place g l = AreMeets g.D.Dioid g.D.Residuated l.left l.right l.columns l.place l.entries.items
