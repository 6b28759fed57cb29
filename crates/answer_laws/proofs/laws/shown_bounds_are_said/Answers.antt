use Rattle.answer_laws.proofs.SaidBounds.{bounds_said}
use Rattle.answer_laws.proofs.laws.shown_bounds_are_said.Goals as goal

pub returns : goal.returns
returns c = bounds_said
