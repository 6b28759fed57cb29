use Rattle.teg_net.specs.Certificates.{potential_at}
use Rattle.law_examples.proofs.paces.potentials_move_as_one.Goals as goal

pub returns : goal.returns
returns c =
    c.critical_parts_tell_potentials.ensures.as_one c.args.net.now c.args.parts.now.part_of c.args.part c.args.ratio.time c.args.ratio.tokens
    c.args.from c.args.to (potential_at c.args.first.now) (potential_at c.args.second.now) c.requires.together c.requires.first c.requires.second
