use Rattle.std.proofs.Common.{◌≡◌, filter, take}
use Rattle.teg_upstream.specs.Parts.{feeds_marked}
use Rattle.teg_upstream.proofs.parts.lists_to.Given as goal

abbrev pub invariant-loop-list : goal.invariant-loop-list
invariant-loop-list l = l.kept.items ≡ filter (feeds_marked l.marks) (take l.list-index l.list-items)
