use Rattle.std.proofs.Common.{ℕ, ◌<◌, ◌≤◌}
use Rattle.own_periods.specs.OwnRows.{IsMoved}
use Rattle.own_periods.proofs.numbers.own_start.Given as goal

abbrev pub invariant-loop-number : goal.invariant-loop-number
invariant-loop-number l = record {
  before : l.after < l.number;
  few : l.after ≤ 4000;
  moved : (k : ℕ) → l.after < k → k < l.number → IsMoved l.of.rows.now l.of.transition.index l.own.period l.own.step k;
  first : 1 ≤ l.after → IsMoved l.of.rows.now l.of.transition.index l.own.period l.own.step l.after → ⊥;
}
