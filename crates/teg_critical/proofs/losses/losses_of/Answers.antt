use Rattle.teg_critical.proofs.Listed.{losses_more}
use Rattle.teg_critical.proofs.losses.losses_of.Goals as goal

pub loop-index-preserved : goal.loop-index-preserved
loop-index-preserved c = rw c.in_ok-push.ensures.items
    (losses_more c.args.net.now c.args.answer.now c.args.best c.loop-index.losses.items c.loop-index.index c.loss_of.result
    c.loop-index.invariant c.loss_of.ensures)
