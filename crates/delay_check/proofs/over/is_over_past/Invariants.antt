use Rattle.std.proofs.Common.{ℕ, ◌<◌, ◌≤◌, ◌≡◌, length}
use Rattle.delay_check.specs.DelayRows.{delay_by_rows}
use Rattle.delay_check.proofs.over.is_over_past.Given as goal

abbrev pub invariant-loop-before : goal.invariant-loop-before
invariant-loop-before l =
    (i k : ℕ) → i < length l.planned.net.now.transitions → l.last < k → k ≤ l.before
    → delay_by_rows l.rows.width l.rows.dates.now l.rows.after l.rows.turn l.rows.steps.now l.planned.period l.planned.table.now i k ≡ 0
