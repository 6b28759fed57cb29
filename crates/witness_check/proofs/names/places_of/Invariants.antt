use Rattle.std.proofs.Common.{map, take}
use Rattle.witness_check.specs.NamedPlaces.{AreNamed}
use Rattle.witness_check.proofs.names.places_of.Given as goal

abbrev pub invariant-loop-index : goal.invariant-loop-index
invariant-loop-index l = AreNamed l.net (take l.index (map (λ x. x.now) l.names)) l.places.items
