use Rattle.teg_net.specs.Certificates.{potential_at}
use Rattle.law_examples.proofs.paces.circuit_is_tight.Goals as goal

pub returns : goal.returns
returns c =
    c.critical_circuits_tell_potentials.ensures.places c.args.net.now c.args.parts.now.part_of c.args.part c.args.ratio.time
    c.args.ratio.tokens (potential_at c.args.potentials.now) c.requires.tight.none_above c.args.circuit.now c.requires.critical
