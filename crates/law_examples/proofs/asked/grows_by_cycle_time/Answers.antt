use Rattle.law_examples.proofs.Answers.{connected}
use Rattle.law_examples.proofs.asked.grows_by_cycle_time.Goals as goal
use Rattle.teg_bound.specs.PeriodicBounds.{IsBoundOf}

pub returns-in-Bound : goal.returns-in-Bound
returns-in-Bound c _ =
    let live = c.ranked_nets_are_live.ensures c.args.net.now c.args.live.now c.requires.live in
    let bound : IsBoundOf c.args.net.now c.in-Bound.number = c.in-Bound.ensures in
    let strong = connected c.args.net.now c.rules.ensures live c.in-Bound.number bound in
    (bound.ratio, bound.greatest, c.dates_grow_by_cycle_time.ensures c.args.net.now bound.ratio.time bound.ratio.tokens strong)
