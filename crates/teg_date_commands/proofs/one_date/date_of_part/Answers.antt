use Rattle.std.proofs.Common.{◌∙◌}
use Rattle.teg_net.proofs.NetRules.{lists_by_rule, lists_rise, net_ends}
use Rattle.teg_check.proofs.Liveness.{ranking_is_live}
use Rattle.teg_date_commands.proofs.one_date.date_of_part.Goals as goal

pub date_by_both-requires-clause-stands : goal.date_by_both-requires-clause-stands
date_by_both-requires-clause-stands c = c.in_ok-part.ensures.rankings c.args.live.now c.requires.stands

pub returns : goal.returns
returns c =
    let net = c.args.net.now in
    let told = c.in_ok-part.ensures in
    let date = c.in_ok-date.ensures in
    let ok = c.rules.ensures in
    let form = c.live_nets_settle.ensures net (net_ends net ok) (lists_rise net ok) (lists_by_rule net ok) (ranking_is_live net c.args.live.now c.requires.stands) in
    (form.1.0, form.1.1, date.2 ∙ told.same form.1.0 date.0 form.1.1 date.1 c.args.number c.requires.first)
