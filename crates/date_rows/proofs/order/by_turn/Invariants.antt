use Rattle.date_rows.proofs.Sorting.{OrderUpTo}
use Rattle.date_rows.proofs.order.by_turn.Given as goal

abbrev pub invariant-loop-index : goal.invariant-loop-index
invariant-loop-index l = OrderUpTo l.net l.live l.order.items l.index
