use Rattle.token_bounds.specs.MostTokens.{AreStillUpTo}
use Rattle.token_bounds.proofs.most.held_alone.Given as goal

abbrev pub invariant-loop-index : goal.invariant-loop-index
invariant-loop-index l = AreStillUpTo l.held l.changed l.index
