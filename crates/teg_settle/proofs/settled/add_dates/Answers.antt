use Rattle.teg_settle.proofs.Copying.{shown_more}
use Rattle.teg_settle.proofs.settled.add_dates.Goals as goal

pub loop-number-preserved : goal.loop-number-preserved
loop-number-preserved c =
    shown_more c.args.rows.now c.args.transition.index c.loop-number.number c.loop-number.dates.items _ c.date.result c.loop-number.invariant c.date.ensures c.in_ok-push.ensures.items
