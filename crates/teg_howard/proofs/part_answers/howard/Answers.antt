use Rattle.teg_howard.proofs.part_answers.howard.Goals as goal

pub policy_run-requires : goal.policy_run-requires
policy_run-requires c = rw c.deref.ensures.value c.in_ok-part_of.ensures.circuit
