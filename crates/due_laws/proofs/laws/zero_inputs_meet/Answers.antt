use Rattle.due_laws.proofs.LatestInputs.{zero_meets}
use Rattle.due_laws.proofs.laws.zero_inputs_meet.Goals as goal

pub returns : goal.returns
returns c = zero_meets
