use Rattle.release_nets.specs.ReleaseNetsBuilt.{AreBuilt, IsDerivedTransition}
use Rattle.release_nets.proofs.derived.transitions.Given as goal

abbrev pub invariant-loop-index : goal.invariant-loop-index
invariant-loop-index l = AreBuilt (IsDerivedTransition l.count) l.index l.transitions.items
