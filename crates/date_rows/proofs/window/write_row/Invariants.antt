use Rattle.date_rows.proofs.Columns.{ColumnsSetTo}
use Rattle.date_rows.proofs.window.write_row.Given as goal

abbrev pub invariant-loop-transition : goal.invariant-loop-transition
invariant-loop-transition l = ColumnsSetTo l.room l.at l.fn.cells l.cells l.row l.transition
