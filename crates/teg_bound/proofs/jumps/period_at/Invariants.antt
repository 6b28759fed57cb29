use Rattle.std.proofs.Common.{ℕ, ◌-◌, ◌<◌, ◌≤◌}
use Rattle.teg_bound.specs.JumpedRows.{AreNumbersMoved, run_step}
use Rattle.teg_bound.proofs.jumps.period_at.Given as goal

abbrev pub invariant-loop-period : goal.invariant-loop-period
invariant-loop-period l = (p : ℕ) → 1 ≤ p → p < l.period → AreNumbersMoved l.net l.rows.runs p (run_step l.rows.runs l.last p) l.most (l.last - l.most) → ⊥
