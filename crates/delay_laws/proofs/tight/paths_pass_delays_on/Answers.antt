use Rattle.delay_laws.proofs.TightCircuits.{paths_pass_delays_on, given_delays_are_left}
use Rattle.delay_laws.proofs.tight.paths_pass_delays_on.Goals as goal

pub returns : goal.returns
returns c = record { path = paths_pass_delays_on; given = given_delays_are_left }
