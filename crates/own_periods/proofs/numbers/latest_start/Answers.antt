use Rattle.own_periods.proofs.Starts.{start_more}
use Rattle.own_periods.proofs.numbers.latest_start.Goals as goal

pub loop-index-preserved : goal.loop-index-preserved
loop-index-preserved c =
    start_more c.args.of.now.rows.now c.args.of.now.owns.now c.loop-index.index c.loop-index.after c.own_start.result c.later-after.result
    c.later-after.ensures.first c.later-after.ensures.second c.later-after.ensures.which c.loop-index.invariant c.own_start.ensures
