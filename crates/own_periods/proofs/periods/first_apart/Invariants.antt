use Rattle.std.proofs.Common.{ℕ, ◌<◌}
use Rattle.own_periods.specs.OwnRows.{IsMoved}
use Rattle.own_periods.proofs.periods.first_apart.Given as goal

abbrev pub invariant-loop-number : goal.invariant-loop-number
invariant-loop-number l = (k : ℕ) → 4000 < k → k < l.number → IsMoved l.of.rows.now l.of.transition.index l.own.period l.own.step k
