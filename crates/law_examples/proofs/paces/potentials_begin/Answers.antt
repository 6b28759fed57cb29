use Rattle.teg_net.proofs.NetRules.{net_ends}
use Rattle.slope_laws.proofs.teg_loops_proofs.Ends.{ends_below}
use Rattle.law_examples.proofs.paces.potentials_begin.Goals as goal

pub returns : goal.returns
returns c =
    c.potentials_are_spanned.ensures.exist c.args.net.now c.args.parts.now.part_of c.args.part c.args.transition c.args.ratio (ends_below c.args.net.now (net_ends c.args.net.now c.rules.ensures))
    c.requires.parts.strong c.requires.greatest c.requires.member
