use Rattle.teg_model.proofs.OfNet.{net_ends}
use Rattle.law_examples.proofs.forms.dates_stay_below.Goals as goal

pub returns : goal.returns
returns c u x inside n v f =
    c.potentials_bound_dates.ensures.bound c.args.net.now (net_ends c.args.net.now c.rules.ensures)
    (c.ranked_nets_are_live.ensures c.args.net.now c.args.live.now c.requires.live) u x f inside c.args.ratio.time c.args.ratio.tokens n v
