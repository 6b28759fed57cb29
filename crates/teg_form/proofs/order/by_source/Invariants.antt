use Rattle.teg_form.proofs.Sorting.{OrderUpTo}
use Rattle.teg_form.proofs.order.by_source.Given as goal

abbrev pub invariant-loop-index : goal.invariant-loop-index
invariant-loop-index l = OrderUpTo l.net l.order.items l.index
