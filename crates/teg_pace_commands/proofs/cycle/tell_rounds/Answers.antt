use Rattle.std.proofs.Common.{All, List, Some, refl, ap, subst, sym, ◌∙◌}
use Rattle.std.specs.Global.{Vec}
use Rattle.teg_net.specs.declared.rounds.Round.{Round}
use Rattle.teg_report.specs.teg_lines.CycleMeanings.{runs_lists}
use Rattle.teg_report.specs.teg_lines.RoundLines.{IsRunKept, RoundLists}
use Rattle.policy_rounds.specs.LastRounds.{rounds_of_runs}
use Rattle.teg_pace_commands.specs.CycleTexts.{cycle_text}
use Rattle.teg_pace_commands.proofs.CycleTold.{lists_of, runs_told}
use Rattle.teg_pace_commands.proofs.cycle.tell_rounds.Goals as goal

pub text_of_times-requires-clause-rounds : goal.text_of_times-requires-clause-rounds
text_of_times-requires-clause-rounds c =
    let answer = c.in_ok-answer.answer in
    rw c.as_slice.ensures.value
    (runs_told c.args.net.now answer.part_of.items answer.parts.items c.in_ok-answer.runs.items c.in_ok-answer.ensures.certificate.count c.in_ok-answer.ensures.runs)

pub returns : goal.returns
returns c =
    let net = c.args.net.now in
    let answer = c.in_ok-answer.answer in
    let runs = c.in_ok-answer.runs.items in
    let told = c.in_ok-text.ensures.text
    ∙ (ap (λ (rs : List (Vec Round)). cycle_text net answer (Some (runs_lists rs))) c.as_slice.ensures.value
    ∙ ap (λ (rs : List (List RoundLists)). cycle_text net answer (Some rs)) (sym (lists_of runs))) in
    let kept = subst (λ (rs : List (List RoundLists)). All IsRunKept rs) (sym (lists_of runs))
    (subst (λ (rs : List (Vec Round)). All IsRunKept (runs_lists rs)) c.as_slice.ensures.value c.in_ok-text.ensures.kept) in
    (refl, (answer, rounds_of_runs runs, c.in_ok-answer.ensures.answer, c.in_ok-answer.ensures.runs, kept, told))
