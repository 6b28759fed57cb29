use Rattle.net_matrices.specs.PlacesBetween.{AreTokensUpTo}
use Rattle.net_matrices.proofs.places.most_tokens.Given as goal

abbrev pub invariant-loop-index : goal.invariant-loop-index
invariant-loop-index l = AreTokensUpTo l.net l.ids l.index l.most
