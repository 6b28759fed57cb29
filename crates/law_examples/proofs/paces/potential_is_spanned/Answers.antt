use Rattle.teg_net.specs.Certificates.{potential_at}
use Rattle.law_examples.proofs.paces.potential_is_spanned.Goals as goal

pub returns : goal.returns
returns c =
    c.potentials_are_spanned.ensures.spanned c.args.net.now c.args.parts.now.part_of c.args.part c.args.ratio.time c.args.ratio.tokens
    (potential_at c.args.potentials.now) c.requires.tight c.args.transition c.requires.member
