use Rattle.teg_certificates.proofs.Certified.{bound_ratios}
use Rattle.teg_certificates.proofs.laws.potentials_bound_ratios.Goals as goal

pub returns : goal.returns
returns c = bound_ratios
