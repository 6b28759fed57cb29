use Rattle.teg_net.proofs.NetRules.{lists_by_rule, lists_of_inputs, lists_rise, net_ends}
use Rattle.law_examples.proofs.periods.dates_repeat.Goals as goal

pub returns : goal.returns
returns c x least =
    let net = c.args.net.now in
    let ok = c.rules.ensures in
    c.dates_repeat_by_parts.ensures.dates net (net_ends net ok) (lists_of_inputs net ok) (lists_rise net ok) (lists_by_rule net ok)
    (c.ranked_nets_are_live.ensures net c.args.live.now c.requires.live) x least c.args.transition.index c.requires.transition c.requires.endless
    c.args.slope.time c.args.slope.tokens c.requires.counts c.requires.slope c.args.multiple c.requires.some c.requires.common
