use Rattle.teg_critical.proofs.Listed.{LossesUpTo}
use Rattle.teg_critical.proofs.losses.losses_of.Given as goal

abbrev pub invariant-loop-index : goal.invariant-loop-index
invariant-loop-index l = LossesUpTo l.net l.answer l.best l.losses.items l.index
