use Rattle.delay_laws.proofs.Keeping.{circuits_keep_delays}
use Rattle.delay_laws.proofs.outcomes.circuits_keep_delays.Goals as goal

pub returns : goal.returns
returns c = circuits_keep_delays
