use Rattle.run_rows.proofs.ReadColumns.{column_more}
use Rattle.run_rows.proofs.columns.column.Goals as goal

pub loop-place-preserved : goal.loop-place-preserved
loop-place-preserved c =
    column_more c.args.rows.now c.args.transition.index c.args.first c.loop-place.place c.loop-place.dates.items _ c.date.result c.loop-place.invariant c.date.ensures c.in_ok-push.ensures.items
