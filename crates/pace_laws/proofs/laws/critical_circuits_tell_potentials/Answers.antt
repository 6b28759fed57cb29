use Rattle.pace_laws.proofs.Tight.{critical_are_tight, critical_tell}
use Rattle.pace_laws.proofs.laws.critical_circuits_tell_potentials.Goals as goal

pub returns : goal.returns
returns c = record { places = critical_are_tight; transitions = critical_tell }
