use Rattle.whatif.proofs.BestCuts.{best_more}
use Rattle.whatif.proofs.cuts.best_of.Goals as goal

pub loop-cut-preserved : goal.loop-cut-preserved
loop-cut-preserved c =
    best_more c.args.held.now c.args.cuts.now c.loop-cut.cut-index _ c.loop-cut.best c.in_ok-pace.pace c.better.result c.loop-cut-test.true c.loop-cut.invariant
    c.in_ok-pace.ensures c.better.ensures
