use Rattle.teg_net.proofs.NetRules.{lists_by_rule, lists_of_inputs, lists_rise, net_ends}
use Rattle.law_examples.proofs.forms.has_slope.Goals as goal

pub returns : goal.returns
returns c x f =
    c.dates_grow_by_slopes.ensures.exist c.args.net.now (net_ends c.args.net.now c.rules.ensures) (lists_of_inputs c.args.net.now c.rules.ensures)
    (lists_rise c.args.net.now c.rules.ensures) (lists_by_rule c.args.net.now c.rules.ensures)
    (c.ranked_nets_are_live.ensures c.args.net.now c.args.live.now c.requires.live) x f c.args.transition.index c.requires.transition c.requires.endless
