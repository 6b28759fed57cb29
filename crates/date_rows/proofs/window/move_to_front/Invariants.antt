use Rattle.date_rows.proofs.Columns.{ColumnsMovedTo}
use Rattle.date_rows.proofs.window.move_to_front.Given as goal

abbrev pub invariant-loop-transition : goal.invariant-loop-transition
invariant-loop-transition l = ColumnsMovedTo l.width l.reach l.room l.fn.cells l.cells l.transition
