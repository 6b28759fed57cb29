use Rattle.teg_run.specs.Says.{SaysFiles}
use Rattle.teg_run.proofs.Showing.{second_lost, second_refused, second_accepted}
use Rattle.teg_run.proofs.carry_out.answer_second.Goals as goal

pub returns-in-Refused : goal.returns-in-Refused
returns-in-Refused g c = second_refused _ c.args.asked.command c.args.net.now _ c.args.asked.second _ _ _ _ _ (rw (c.second_of.ensures, c.as_str.ensures) at c.in-Refused.ensures)

pub returns-in-Accepted : goal.returns-in-Accepted
returns-in-Accepted g c =
    second_accepted _ c.args.asked.command c.args.net.now _ _ c.args.asked.second _ _
    (SaysFiles c.args.asked.command _ c.args.net.now) _ _ _ c.closed.ensures (rw (c.second_of.ensures, c.as_str.ensures) at c.in-Accepted.ensures)
    c.of_files.ensures.says c.of_files.ensures.shown

pub returns : goal.returns
returns g c = second_lost _ c.args.asked.command c.args.net.now _ c.args.asked.second _ _ (λ _ _ _. ⊥) (rw c.as_str.ensures at c.in-Lost.ensures)
