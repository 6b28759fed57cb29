use Rattle.due_changes.proofs.JointInputs.{later_inputs, later_meet, earlier_meet}
use Rattle.due_changes.proofs.laws.inputs_meet_together.Goals as goal

pub returns : goal.returns
returns c = record { inputs = later_inputs; later = later_meet; earlier = earlier_meet }
