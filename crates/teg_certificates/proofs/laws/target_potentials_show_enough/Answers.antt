use Rattle.teg_certificates.proofs.FurtherTokens.{potentials_enough}
use Rattle.teg_certificates.proofs.laws.target_potentials_show_enough.Goals as goal

pub returns : goal.returns
returns c = potentials_enough
