use Rattle.teg_howard.proofs.part_answers.last_round.Goals as goal

pub last_answer-requires : goal.last_answer-requires
last_answer-requires c = rw c.deref.ensures.value c.in_ok-part_of.ensures.circuit
