use Rattle.std.proofs.Common.{ℕ, ◌+◌, ◌<◌, slice_index_or}
use Rattle.teg_net.specs.declared.entries.InputList.{InputList}
use Rattle.forever_check.proofs.with_lists.are_in_order.Given as goal

abbrev pub invariant-loop-index : goal.invariant-loop-index
invariant-loop-index l =
    (i : ℕ) (d : InputList) → i + 1 < l.index → (slice_index_or l.lists i d).transition.index < (slice_index_or l.lists (i + 1) d).transition.index
