use Rattle.pace_laws.proofs.Eigenspace.{move_as_one, begins_for_each, tells_all}
use Rattle.pace_laws.proofs.laws.critical_parts_tell_potentials.Goals as goal

pub returns : goal.returns
returns c = record { as_one = move_as_one; begun = begins_for_each; one = tells_all }
