use Rattle.std.proofs.Common.{rules, ◌≤◌, arith}
use Rattle.teg_net.proofs.NetRules.{lists_by_rule, lists_rise, net_ends}
use Rattle.teg_check.proofs.Liveness.{ranking_is_live}
use Rattle.teg_bound.proofs.Jumped.{jumped_form}
use Rattle.teg_bound.proofs.jumps.numbers_by_jumps.Goals as goal

pub returns : goal.returns
returns c =
    let net = c.args.net.now in
    let ranks = c.args.live.now in
    let live = ranking_is_live net ranks c.requires.stands in
    let ok = c.rules.ensures in
    let most = c.most_tokens.ensures in
    let same = c.from-most.ensures in
    let found = c.in-Some-period_at.ensures in
    let few = found.first.few in
    let last = found.last in
    let small : c.from-most.result ≤ 50000000000000000 = search rules in
    jumped_form net ok ranks c.requires.stands c.requires.part c.in-Some.rows.runs 100000000000000000 (rw c.in-Some.is at c.in_ok-dates_by_few_rows.ensures)
    (c.live_nets_settle.ensures net (net_ends net ok) (lists_rise net ok) (lists_by_rule net ok) live)
    c.from-most.result c.in-Some-period_at.found c.in-Some-moved_past.after
    (rw same most.some) (rw same most.greatest) (omega (arith, small, last)) (omega (arith, few, last)) (omega arith) found.first c.in-Some-moved_past.ensures
