use Rattle.teg_pace_commands.proofs.CycleTold.{no_circuit_said}
use Rattle.teg_pace_commands.proofs.laws.no_circuit_is_told.Goals as goal

pub returns : goal.returns
returns c = no_circuit_said
