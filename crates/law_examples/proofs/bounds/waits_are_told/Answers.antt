use Rattle.teg_net.proofs.NetRules.{lists_by_rule, lists_of_inputs, lists_rise, net_ends}
use Rattle.law_examples.proofs.bounds.waits_are_told.Goals as goal

pub returns : goal.returns
returns c x least =
    c.waits_are_bounded_by_equal_slopes.ensures.slopes c.args.net.now (net_ends c.args.net.now c.rules.ensures) (lists_of_inputs c.args.net.now c.rules.ensures)
    (lists_rise c.args.net.now c.rules.ensures) (lists_by_rule c.args.net.now c.rules.ensures)
    (c.ranked_nets_are_live.ensures c.args.net.now c.args.live.now c.requires.live) x least
    c.args.place c.requires.place c.requires.endless c.args.start.time c.args.start.tokens c.args.end.time c.args.end.tokens
    c.requires.start_counts c.requires.end_counts c.requires.start c.requires.end
