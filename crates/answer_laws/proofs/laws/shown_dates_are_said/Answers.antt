use Rattle.answer_laws.proofs.Said.{dates_said}
use Rattle.answer_laws.proofs.laws.shown_dates_are_said.Goals as goal

pub returns : goal.returns
returns c = dates_said
