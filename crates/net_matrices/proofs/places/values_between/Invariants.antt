use Rattle.net_matrices.proofs.PlaceValues.{AreListed}
use Rattle.net_matrices.proofs.places.values_between.Given as goal

abbrev pub invariant-loop-shift : goal.invariant-loop-shift
invariant-loop-shift l = AreListed l.net l.to l.from l.shift l.values.items
