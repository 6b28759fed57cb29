use Rattle.teg_certificates.proofs.FurtherTokens.{potentials_enough}
use Rattle.teg_certificates.proofs.sizes.check_enough.Goals as goal

pub returns-clause-enough : goal.returns-clause-enough
returns-clause-enough c = λ t. potentials_enough c.args.net.now c.args.target.now c.args.place c.args.extra c.args.potentials.now (c.are_potentials.ensures.0 t)
