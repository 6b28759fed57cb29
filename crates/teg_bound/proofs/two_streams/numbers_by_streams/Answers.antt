use Rattle.teg_net.proofs.NetRules.{lists_by_rule, lists_rise, net_ends}
use Rattle.teg_check.proofs.Liveness.{ranking_is_live}
use Rattle.teg_bound.proofs.TwoStreams.{form_within, shortest}
use Rattle.teg_bound.proofs.two_streams.numbers_by_streams.Goals as goal

pub first_return-requires : goal.first_return-requires
first_return-requires c =
    let net = c.args.net.now in
    let live = ranking_is_live net c.args.live.now c.requires.stands in
    let ok = c.rules.ensures in (
      c.requires.stands,
      (record { alone = c.requires.alone; strong = c.requires.strong }, form_within c.least_datings_repeat.ensures net ok live (c.live_nets_settle.ensures net (net_ends net ok) (lists_rise net ok) (lists_by_rule net ok) live)),
    )

pub moved_from-requires-clause-part : goal.moved_from-requires-clause-part
moved_from-requires-clause-part c = record { alone = c.requires.alone; strong = c.requires.strong }

pub returns : goal.returns
returns c =
    let net = c.args.net.now in
    let live = ranking_is_live net c.args.live.now c.requires.stands in
    let ok = c.rules.ensures in
    let h = c.in_ok-found.ensures in
    shortest net c.args.live.now ok c.requires.stands (record { alone = c.requires.alone; strong = c.requires.strong }) (c.live_nets_settle.ensures net (net_ends net ok) (lists_rise net ok) (lists_by_rule net ok) live)
    c.in_ok-found.found h.0 h.1 c.in_ok-after.after c.in_ok-after.ensures
