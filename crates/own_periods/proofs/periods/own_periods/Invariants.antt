use Rattle.own_periods.proofs.Lists.{AreOwnUpTo}
use Rattle.own_periods.proofs.periods.own_periods.Given as goal

abbrev pub invariant-loop-index : goal.invariant-loop-index
invariant-loop-index l = AreOwnUpTo l.rows l.owns.items l.index
