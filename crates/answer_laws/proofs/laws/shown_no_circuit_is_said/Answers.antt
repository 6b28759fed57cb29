use Rattle.answer_laws.proofs.Said.{no_circuit_said}
use Rattle.answer_laws.proofs.laws.shown_no_circuit_is_said.Goals as goal

pub returns : goal.returns
returns c = no_circuit_said
