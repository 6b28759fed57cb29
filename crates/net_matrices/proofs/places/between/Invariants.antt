use Rattle.net_matrices.specs.PlacesBetween.{AreBetween}
use Rattle.net_matrices.proofs.places.between.Given as goal

abbrev pub invariant-loop-index : goal.invariant-loop-index
invariant-loop-index l = AreBetween l.net l.to l.from l.index l.ids.items
