use Rattle.teg_net.proofs.NetRules.{lists_by_rule, lists_rise, net_ends}
use Rattle.teg_check.proofs.Liveness.{ranking_is_live}
use Rattle.teg_bound.proofs.OwnForms.{own_shortest}
use Rattle.teg_bound.proofs.TwoStreams.{some_in}
use Rattle.teg_bound.proofs.jumps.numbers_by_rows.Goals as goal

pub own_numbers-requires-clause-some : goal.own_numbers-requires-clause-some
own_numbers-requires-clause-some c = some_in c.args.net.now c.rules.ensures (record { alone = c.requires.alone; strong = c.requires.strong })

pub returns-in-Some : goal.returns-in-Some
returns-in-Some c =
    let net = c.args.net.now in
    let ok = c.rules.ensures in
    own_shortest net
    (c.live_nets_settle.ensures net (net_ends net ok) (lists_rise net ok) (lists_by_rule net ok) (ranking_is_live net c.args.live.now c.requires.stands))
    c.in-Some.found (rw c.in-Some.is at c.in_ok-found.ensures)
