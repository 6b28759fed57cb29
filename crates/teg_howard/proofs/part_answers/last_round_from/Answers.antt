use Rattle.teg_howard.proofs.part_answers.last_round_from.Goals as goal

pub answer_after-requires : goal.answer_after-requires
answer_after-requires c = rw c.deref.ensures.value c.in_ok-part_of.ensures.circuit
