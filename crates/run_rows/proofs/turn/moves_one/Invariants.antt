use Rattle.std.proofs.Common.{ℕ, ◌≡◌, ◌<◌, ◌≤◌, ◌+◌}
use Rattle.dioid.specs.Dates.{move}
use Rattle.date_rows.specs.DateTables.{date_at}
use Rattle.run_rows.specs.RoomyRuns.{step_of}
use Rattle.run_rows.proofs.turn.moves_one.Given as goal

abbrev pub invariant-loop-number : goal.invariant-loop-number
invariant-loop-number l =
    (k : ℕ) → l.from ≤ k → k < l.number
    → date_at l.last.rows.now l.transition.index (k + l.last.run.now.turn) ≡ move (step_of l.last.run.now l.transition.index (l.last.after + k)) (date_at l.last.rows.now l.transition.index k)
