use Rattle.std.proofs.Common.{ℕ, List, sym, subst}
use Rattle.policy_rounds.specs.LastRounds.{AreRunsFrom, rounds_of_runs}
use Rattle.teg_pace_commands.proofs.CycleTold.{cycle_answer}
use Rattle.teg_pace_commands.proofs.cycle.times_and_runs.Goals as goal

pub returns-clause-answer : goal.returns-clause-answer
returns-clause-answer c =
    rw (← c.net.ensures.net) (cycle_answer c.net.result.now c.args.parts.now c.in_ok-answer.answer (rw (← c.net.ensures.net) at c.requires)
    c.in_ok-answer.ensures.part_of c.in_ok-answer.ensures.count c.in_ok-answer.ensures.parts c.in_ok-answer.ensures.limits c.in_ok-answer.ensures.best c.in_ok-answer.ensures.net)

pub returns-clause-runs : goal.returns-clause-runs
returns-clause-runs c =
    let answer = c.in_ok-answer.answer in
    rw (← c.net.ensures.net)
    (subst (λ (ps : List ℕ). AreRunsFrom c.net.result.now ps 0 answer.parts.items (rounds_of_runs c.in_ok-answer.runs.items)) (sym c.in_ok-answer.ensures.part_of) c.in_ok-answer.ensures.runs)
