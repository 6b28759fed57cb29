use Rattle.delay_laws.proofs.TightCircuits.{pass_delays_round, tight_circuits_keep_delays}
use Rattle.delay_laws.proofs.tight.tight_circuits_keep_delays.Goals as goal

pub returns : goal.returns
returns c = record { round = pass_delays_round; keep = tight_circuits_keep_delays }
