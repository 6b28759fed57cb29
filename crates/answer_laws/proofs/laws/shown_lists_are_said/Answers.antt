use Rattle.answer_laws.proofs.Said.{lists_said}
use Rattle.answer_laws.proofs.laws.shown_lists_are_said.Goals as goal

pub returns : goal.returns
returns c = lists_said
