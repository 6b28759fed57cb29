use Rattle.teg_cycle.proofs.best_parts.best_part.Given as goal
use Rattle.teg_cycle.proofs.BestBelow.{IsBestBelow}

abbrev pub invariant-loop-index : goal.invariant-loop-index
invariant-loop-index l = IsBestBelow l.answers l.index l.best
