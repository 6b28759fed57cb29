use Rattle.teg_net.proofs.NetRules.{lists_by_rule, lists_of_inputs, net_ends}
use Rattle.delay_laws.proofs.Derived.{release_nets_are_live}
use Rattle.delay_laws.proofs.DerivedForms.{release_nets_tell_delays}
use Rattle.release_nets.proofs.derived.release_net.Goals as goal

pub returns-clause-live : goal.returns-clause-live
returns-clause-live c =
    let p = c.args.planned.now in
    release_nets_are_live p.net.now p.kept.ends p.kept.live p.period p.table.now c.net_of.result c.net_of.ensures.derived

pub returns-clause-tells : goal.returns-clause-tells
returns-clause-tells c =
    let p = c.args.planned.now in
    let derived = c.net_of.result in
    let ok = c.net_of.ensures.rules in
    release_nets_tell_delays p.net.now p.kept.ends p.kept.live p.period p.table.now derived
    (net_ends derived ok) (lists_of_inputs derived ok) (lists_by_rule derived ok) c.net_of.ensures.derived
