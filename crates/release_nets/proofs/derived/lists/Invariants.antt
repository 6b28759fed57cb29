use Rattle.std.proofs.Common.{length}
use Rattle.release_nets.specs.ReleaseNetsBuilt.{AreBuilt, IsDerivedList}
use Rattle.release_nets.proofs.derived.lists.Given as goal

abbrev pub invariant-loop-index : goal.invariant-loop-index
invariant-loop-index l = AreBuilt (IsDerivedList l.planned.period l.planned.table.now (length l.planned.net.now.transitions)) l.index l.lists.items
