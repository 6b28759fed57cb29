use Rattle.teg_pace_commands.proofs.CycleTold.{cycle_answer}
use Rattle.teg_pace_commands.proofs.cycle.cycle_times.Goals as goal

pub returns-clause-answer : goal.returns-clause-answer
returns-clause-answer c =
    rw (← c.net.ensures.net) (cycle_answer c.net.result.now c.args.parts.now c.in_ok-answer.answer (rw (← c.net.ensures.net) at c.requires)
    c.in_ok-answer.ensures.part_of c.in_ok-answer.ensures.count c.in_ok-answer.ensures.parts c.in_ok-answer.ensures.limits c.in_ok-answer.ensures.best c.in_ok-answer.ensures.net)
