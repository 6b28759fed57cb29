use Rattle.answer_laws.proofs.SaidRounds.{rounds_are_said}
use Rattle.answer_laws.proofs.laws.shown_rounds_are_said.Goals as goal

pub returns : goal.returns
returns c = rounds_are_said
