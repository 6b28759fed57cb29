use Rattle.std.proofs.Common.{ℕ, ◌<◌, ◌≤◌, ◌≡◌}
use Rattle.date_rows.specs.DateTables.{date_at}
use Rattle.teg_settle.proofs.shown.SettledDates.has_same_row.Given as goal

abbrev pub invariant-loop-number : goal.invariant-loop-number
invariant-loop-number l = (k : ℕ) → 1 ≤ k → k < l.number → date_at l.self-inside.rows l.first.index k ≡ date_at l.self-inside.rows l.other.index k
