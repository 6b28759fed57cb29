use Rattle.due_changes.proofs.JointInputs.{meet_up_to_latest}
use Rattle.due_changes.proofs.laws.inputs_meet_up_to_latest.Goals as goal

pub returns : goal.returns
returns c = meet_up_to_latest
