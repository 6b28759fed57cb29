use Rattle.std.proofs.Common.{ℕ, ◌<◌, ◌≤◌, ◌+◌, ◌-◌}
use Rattle.dioid.specs.Dates.{delayed}
use Rattle.date_rows.specs.DateTables.{date_at}
use Rattle.run_rows.specs.RoomyRuns.{step_of}
use Rattle.run_rows.specs.TurnsLeft.{InTimeFor, IsInLastTurn}
use Rattle.run_rows.proofs.in_time.turns_of_way.Given as goal

abbrev pub invariant-loop-number : goal.invariant-loop-number
invariant-loop-number l = record {
  within : l.turns ≤ l.most;
  in_time : (k : ℕ) → IsInLastTurn l.last.rows.now l.last.run.now.turn k → k < l.number
      → InTimeFor l.turns (step_of l.last.run.now l.way.from.index (l.last.after + (k - l.way.tokens))) (step_of l.last.run.now l.way.to.index (l.last.after + k))
      (delayed l.way.hold (date_at l.last.rows.now l.way.from.index (k - l.way.tokens))) (date_at l.last.rows.now l.way.to.index k);
}
