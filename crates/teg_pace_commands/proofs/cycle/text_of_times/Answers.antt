use Rattle.std.proofs.Common.{ℕ, Option, None, subst}
use Rattle.teg_net.specs.GreatestRatios.{IsFirstGreatest}
use Rattle.teg_report.proofs.teg_lines_proofs.Certified.{certificate_told}
use Rattle.teg_pace_commands.proofs.CycleTold.{no_rounds_kept, of_each_result}
use Rattle.teg_pace_commands.proofs.cycle.text_of_times.Goals as goal

pub report-requires-in-Some : goal.report-requires-in-Some
report-requires-in-Some c =
    rw c.net-in-Some.ensures.net (certificate_told c.args.net.now c.args.answer.now c.in-Some.field-0 c.requires.certificate c.in-Some.is, c.requires.rounds)

pub returns-in-None-clause-kept : goal.returns-in-None-clause-kept
returns-in-None-clause-kept c =
    let parts = c.args.answer.now.parts.items in
    let none : IsFirstGreatest parts None = subst (λ (best : Option ℕ). IsFirstGreatest parts best) c.in-None.is c.requires.certificate.best in
    of_each_result _ c.report.result (no_rounds_kept c.args.net.now parts _ none c.requires.rounds)
