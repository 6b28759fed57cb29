use Rattle.teg_run.proofs.Showing.{both_lost, both_refused, both_accepted}
use Rattle.teg_run.proofs.carry_out.answer_files.Goals as goal

pub returns-in-Refused : goal.returns-in-Refused
returns-in-Refused g c = both_refused c.args.asked.command _ c.args.net.now _ _ _ _ _ _ c.in-Refused.ensures

pub returns-in-Accepted : goal.returns-in-Accepted
returns-in-Accepted g c = both_accepted c.args.asked.command _ _ _ c.args.net.now _ _ _ _ _ _ c.in-Accepted.ensures c.answer_second.ensures

pub returns-in-Lost : goal.returns-in-Lost
returns-in-Lost g c = both_lost c.args.asked.command _ c.args.net.now _ _ _ (λ _ _ _. ⊥) c.in-Lost.ensures
