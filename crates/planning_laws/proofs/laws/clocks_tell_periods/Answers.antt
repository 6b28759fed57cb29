use Rattle.planning_laws.proofs.Clocks.{clocks_tell, clocks_tell_slack}
use Rattle.planning_laws.proofs.laws.clocks_tell_periods.Goals as goal

pub returns : goal.returns
returns c = record { periods = clocks_tell; slack = clocks_tell_slack }
