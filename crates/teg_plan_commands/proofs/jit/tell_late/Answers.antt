use Rattle.std.proofs.Common.{rules, ◌≢◌, ap, ◌∙◌, refl, subst}
use Rattle.teg_jit.specs.declared.answers.JitRefusal.TheVariants.{OutOfMemory}
use Rattle.teg_net.specs.Nets.{IsNet, NetLists}
use Rattle.teg_plan_commands.proofs.Planned.{none_meet}
use Rattle.teg_report.specs.PlanLines.{late_lines}
use Rattle.teg_report.specs.AnswerMeanings.{late_lists}
use Rattle.teg_report.specs.teg_text.Lines.{written}
use Rattle.teg_plan_commands.proofs.jit.tell_late.Goals as goal

pub returns-in_ok-text-in-Late : goal.returns-in_ok-text-in-Late
returns-in_ok-text-in-Late c =
    let other : c.args.refusal.now ≢ OutOfMemory = search rules in
    let ok = subst IsNet c.net.ensures.net c.rules.ensures in
    let none = none_meet c.args.net.now c.args.due.now.rows.items c.args.refusal.now ok c.requires.live c.requires.due c.zero_inputs_meet.ensures c.late_excludes_meet.ensures other c.requires.late in
    let text_is = c.in_ok-text-in-Late.ensures.text ∙ ap (λ (net : NetLists). written (late_lines net (late_lists c.args.refusal.now))) c.net-in-Late.ensures.net in
    (refl, (c.args.refusal.now, other, c.requires.late, none, (c.in_ok-text-in-Late.ensures.told tt).kept, text_is))
