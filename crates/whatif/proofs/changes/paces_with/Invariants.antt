use Rattle.std.proofs.Common.{take}
use Rattle.whatif.specs.Changes.{ArePaces}
use Rattle.whatif.proofs.changes.paces_with.Given as goal

abbrev pub invariant-loop-change : goal.invariant-loop-change
invariant-loop-change l = ArePaces l.held (take l.change-index l.changes) l.paces.items
