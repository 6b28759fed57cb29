use Rattle.std.proofs.Common.{ℕ, ◌<◌, ◌≤◌}
use Rattle.own_periods.specs.OwnRows.{AreMoved, first_step}
use Rattle.own_periods.proofs.periods.own_period.Given as goal

abbrev pub invariant-loop-period : goal.invariant-loop-period
invariant-loop-period l = (p : ℕ) → 1 ≤ p → p < l.period → AreMoved l.of.rows.now l.of.transition.index p (first_step l.of.rows.now l.of.transition.index p) → ⊥
