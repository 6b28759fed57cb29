use Rattle.std.proofs.Common.{ℕ, ◌<◌, ◌≡◌}
use Rattle.delay_check.specs.DelayRows.{delay_by_rows}
use Rattle.delay_check.proofs.over.is_late_at.Given as goal

abbrev pub invariant-loop-index : goal.invariant-loop-index
invariant-loop-index l =
    (i : ℕ) → i < l.index
    → delay_by_rows l.rows.width l.rows.dates.now l.rows.after l.rows.turn l.rows.steps.now l.planned.period l.planned.table.now i l.number ≡ 0
