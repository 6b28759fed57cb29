use Rattle.std.proofs.Common.{◌≡◌, [], replicate}
use Rattle.teg_state.proofs.history.empty_columns.Given as goal

abbrev pub invariant-loop-index : goal.invariant-loop-index
invariant-loop-index l = l.columns.items ≡ replicate l._index []
