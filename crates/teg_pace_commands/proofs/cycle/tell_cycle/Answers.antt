use Rattle.std.proofs.Common.{ℕ, List, refl, sym, subst}
use Rattle.policy_rounds.specs.LastRounds.{AreLastOfRuns}
use Rattle.teg_pace_commands.proofs.cycle.tell_cycle.Goals as goal

pub returns : goal.returns
returns c =
    let answer = c.in_ok-answer.answer in
    let last = subst (λ (ps : List ℕ). AreLastOfRuns c.args.net.now ps answer.parts.items) (sym c.in_ok-answer.ensures.part_of) c.in_ok-answer.ensures.runs in
    (refl, (answer, c.in_ok-answer.ensures.answer, last, c.in_ok-text.ensures.text))
