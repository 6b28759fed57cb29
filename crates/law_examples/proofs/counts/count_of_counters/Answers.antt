use Rattle.teg_net.proofs.NetRules.{lists_by_rule, lists_rise, net_ends}
use Rattle.law_examples.proofs.counts.count_of_counters.Goals as goal

pub returns : goal.returns
returns c x f =
    let w = c.live_nets_have_counters.ensures.exist c.args.net.now x (net_ends c.args.net.now c.rules.ensures)
    (lists_rise c.args.net.now c.rules.ensures) (lists_by_rule c.args.net.now c.rules.ensures) (c.ranked_nets_are_live.ensures c.args.net.now c.args.live.now c.requires.live) f in
    (w.0, w.1, c.count_by.ensures.counters x w.0 f w.1)
