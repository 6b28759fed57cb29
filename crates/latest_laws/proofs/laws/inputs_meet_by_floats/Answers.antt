use Rattle.latest_laws.proofs.Floats.{meet_by_floats}
use Rattle.latest_laws.proofs.laws.inputs_meet_by_floats.Goals as goal

pub returns : goal.returns
returns c = meet_by_floats
