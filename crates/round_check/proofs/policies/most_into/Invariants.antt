use Rattle.round_check.specs.Offers.{IsMostBelow, values_at}
use Rattle.round_check.proofs.policies.most_into.Given as goal

abbrev pub invariant-loop-index : goal.invariant-loop-index
invariant-loop-index l = IsMostBelow l.part.net.now l.part.parts.now l.part.number l.ratio.time l.ratio.tokens (values_at l.values) l.transition l.index l.most
