use Rattle.std.proofs.Common.{ap, ◌∙◌, inl, refl, subst}
use Rattle.teg_jit.specs.Plans.{KeepsSizes}
use Rattle.teg_net.specs.Nets.{IsNet, NetLists}
use Rattle.teg_plan_commands.proofs.Planned.{plan_of}
use Rattle.teg_report.specs.PlanLines.{plan_lines}
use Rattle.teg_report.specs.teg_text.Lines.{written}
use Rattle.teg_plan_commands.proofs.jit.tell_latest.Goals as goal

pub returns-in_ok-text-in-Ok : goal.returns-in_ok-text-in-Ok
returns-in_ok-text-in-Ok c =
    let has = rw c.net.ensures.net at c.in-Ok.ensures in
    let ok = subst IsNet c.net-in-Ok.ensures.net c.rules.ensures in
    let sizes : KeepsSizes c.in-Ok.plan = rw (← c.plan.view_is) c.plan.invariant in
    let plan = plan_of c.args.net.now c.args.due.now.rows.items c.in-Ok.plan ok c.plans_lead.ensures sizes has.numbers has.plan has.inputs has.in_time in
    let text_is = c.in_ok-text-in-Ok.ensures.text ∙ ap (λ (net : NetLists). written (plan_lines net c.in-Ok.plan)) c.net-in-Ok-2.ensures.net in
    inl (refl, (c.in-Ok.plan, plan, (c.in_ok-text-in-Ok.ensures.told tt).kept, text_is))
