use Rattle.teg_model.proofs.OfNet.{net_ends}
use Rattle.law_examples.proofs.paces.period_is_workable.Goals as goal

pub returns : goal.returns
returns c =
    let live = c.ranked_nets_are_live.ensures c.args.net.now c.args.live.now c.requires.live in
    c.periods_from_the_ratio_are_workable.ensures.ratios c.args.net.now c.args.period c.args.ratio (net_ends c.args.net.now c.rules.ensures) live c.requires.greatest
