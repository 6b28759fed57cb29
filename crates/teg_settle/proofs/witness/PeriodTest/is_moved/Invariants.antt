use Rattle.std.proofs.Common.{ℕ, ◌≡◌, ◌+◌, ◌<◌}
use Rattle.dioid.specs.Dates.{move}
use Rattle.date_rows.specs.DateTables.{date_at}
use Rattle.teg_settle.specs.ComparedRows.{read_step}
use Rattle.teg_settle.proofs.witness.PeriodTest.is_moved.Given as goal

abbrev pub invariant-loop-index : goal.invariant-loop-index
invariant-loop-index l = (t : ℕ) → t < l.index → date_at l.self.rows t (l.number + l.self.period) ≡ move (read_step l.self.rows l.self.period t) (date_at l.self.rows t l.number)
