use Rattle.cyclicity_laws.specs.Reached.{common_number}
use Rattle.teg_net.specs.Limits.{most_place_tokens}
use Rattle.teg_net.proofs.NetRules.{lists_by_rule, lists_of_inputs, lists_rise, net_ends, tokens_within}
use Rattle.law_examples.proofs.periods.period_divides_by_size.Goals as goal

pub returns : goal.returns
returns c =
    let net = c.args.net.now in
    let live = c.ranked_nets_are_live.ensures net c.args.live.now c.requires.live in
    let form = c.requires.form in
    let ok = c.rules.ensures in
    let some = (c.common_numbers_exist.ensures.towards net (net_ends net ok) (lists_by_rule net ok) live most_place_tokens (tokens_within net ok) 0 0 1).0 in
    let common = c.common_numbers_exist.ensures.nets net (net_ends net ok) (lists_of_inputs net ok) (lists_rise net ok) (lists_by_rule net ok) live most_place_tokens (tokens_within net ok) form.0 form.1 in
    c.dates_repeat_by_parts.ensures.periods net (net_ends net ok) (lists_of_inputs net ok) (lists_rise net ok) (lists_by_rule net ok) live form.0 form.1 c.args.form.now form.2 (common_number net most_place_tokens) some common
