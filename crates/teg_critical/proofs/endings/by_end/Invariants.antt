use Rattle.teg_critical.proofs.Ending.{EndingsUpTo}
use Rattle.teg_critical.proofs.endings.by_end.Given as goal

abbrev pub invariant-loop-index : goal.invariant-loop-index
invariant-loop-index l = EndingsUpTo l.net l.losses l.order.items l.index
