use Rattle.answer_laws.proofs.Said.{slacks_said}
use Rattle.answer_laws.proofs.laws.shown_slacks_are_said.Goals as goal

pub returns : goal.returns
returns c = slacks_said
