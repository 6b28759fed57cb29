use Rattle.std.proofs.Common.{◌≡◌, take}
use Rattle.ready_changes.proofs.ready.inputs_copy.Given as goal

abbrev pub invariant-loop-list : goal.invariant-loop-list
invariant-loop-list l = l.copies.items ≡ take l.list-index l.inputs
