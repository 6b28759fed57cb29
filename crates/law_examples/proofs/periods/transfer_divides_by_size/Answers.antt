use Rattle.cyclicity_laws.specs.Reached.{common_number}
use Rattle.teg_net.specs.Limits.{most_place_tokens}
use Rattle.teg_net.proofs.NetRules.{lists_by_rule, net_ends, tokens_within}
use Rattle.law_examples.proofs.periods.transfer_divides_by_size.Goals as goal

pub returns : goal.returns
returns c =
    let net = c.args.net.now in
    let live = c.ranked_nets_are_live.ensures net c.args.live.now c.requires.live in
    let ok = c.rules.ensures in
    let ends = net_ends net ok in
    let some = (c.common_numbers_exist.ensures.towards net ends (lists_by_rule net ok) live most_place_tokens (tokens_within net ok) 0 0 1).0 in
    c.transfers_repeat_by_parts.ensures.periods net ends live c.args.start.index c.requires.start c.args.transfer.now c.requires.transfer (common_number net most_place_tokens) some
    (λ t lt.
    let rate = c.transfers_repeat_by_parts.ensures.rates net ends live c.args.start.index c.requires.start t lt in
    (rate.0, rate.1, rate.2, λ _ d ps critical _ _. c.common_numbers_exist.ensures.parts net ends live most_place_tokens (tokens_within net ok) rate.0 rate.1 d ps critical))
