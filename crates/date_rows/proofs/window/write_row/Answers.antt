use Rattle.std.proofs.Common.{arith}
use Rattle.date_rows.proofs.Columns.{column_set}
use Rattle.date_rows.proofs.window.write_row.Goals as goal

pub loop-transition-preserved : goal.loop-transition-preserved
loop-transition-preserved c =
    rw c.cell.ensures.value
    (column_set c.args.room c.args.at c.args.cells.now c.loop-transition.cells c.args.row.now c.loop-transition.transition c.requires.at
    (omega (arith, c.cell.ensures.value, c.cell.ensures.within, c.requires.full)) c.loop-transition.invariant)
