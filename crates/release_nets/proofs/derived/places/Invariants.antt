use Rattle.release_nets.specs.ReleaseNetsBuilt.{AreBuilt, IsDerivedPlace}
use Rattle.release_nets.proofs.derived.places.Given as goal

abbrev pub invariant-loop-index : goal.invariant-loop-index
invariant-loop-index l = AreBuilt (IsDerivedPlace l.net) l.index l.places.items
