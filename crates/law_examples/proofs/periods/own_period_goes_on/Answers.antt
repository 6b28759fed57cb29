use Rattle.std.specs.Prelude.{pos}
use Rattle.teg_net.proofs.NetRules.{net_ends}
use Rattle.teg_model.specs.Datings.{listed_releases}
use Rattle.law_examples.proofs.periods.own_period_goes_on.Goals as goal

pub returns : goal.returns
returns c x period step least numbers h =
    let net = c.args.net.now in
    c.own_periods_go_on.ensures net (net_ends net c.rules.ensures) (c.ranked_nets_are_live.ensures net c.args.live.now c.requires.live) c.requires.alone
    (listed_releases net) x least numbers c.args.count (pos c.args.time) c.args.from c.args.base c.args.last period step h c.args.transition.index c.requires.transition
