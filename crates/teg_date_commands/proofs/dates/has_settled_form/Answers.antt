use Rattle.teg_net.proofs.NetRules.{lists_by_rule, lists_rise, net_ends}
use Rattle.teg_date_commands.proofs.dates.has_settled_form.Goals as goal

pub returns : goal.returns
returns c =
    let net = c.args.net.now in
    let ok = rw c.net-held.ensures.net at c.rules.ensures in
    c.live_nets_settle.ensures net (net_ends net ok) (lists_rise net ok) (lists_by_rule net ok) c.net-held.ensures.live
