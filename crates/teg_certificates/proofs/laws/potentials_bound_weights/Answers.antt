use Rattle.teg_certificates.proofs.PathSums.{weights_bounded}
use Rattle.teg_certificates.proofs.laws.potentials_bound_weights.Goals as goal

pub returns : goal.returns
returns c = weights_bounded
