use Rattle.teg_model.proofs.OfNet.{net_ends}
use Rattle.law_examples.proofs.counts.date_is_reached.Goals as goal

pub returns : goal.returns
returns c x f =
    c.legal_runs_reach_least_dates.ensures.dates c.args.net.now x (net_ends c.args.net.now c.rules.ensures)
    (c.ranked_nets_are_live.ensures c.args.net.now c.args.live.now c.requires.live)
    f c.args.transition.index c.args.number c.args.date c.requires.transition c.requires.number
