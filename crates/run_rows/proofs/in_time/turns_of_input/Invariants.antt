use Rattle.std.proofs.Common.{ℕ, ◌<◌, ◌≤◌, ◌+◌}
use Rattle.teg_net.specs.Inputs.{list_of_input}
use Rattle.teg_model.specs.Datings.{listed_releases}
use Rattle.date_rows.specs.DateTables.{date_at}
use Rattle.jump_laws.specs.ListedJumps.{pace_by_list}
use Rattle.run_rows.specs.RoomyRuns.{step_of}
use Rattle.run_rows.specs.TurnsLeft.{InTimeFor, IsInLastTurn}
use Rattle.run_rows.proofs.in_time.turns_of_input.Given as goal

abbrev pub invariant-loop-number : goal.invariant-loop-number
invariant-loop-number l = record {
  within : l.turns ≤ l.most;
  in_time : (k : ℕ) → IsInLastTurn l.last.rows.now l.last.run.now.turn k → k < l.number
      → InTimeFor l.turns (pace_by_list l.last.run.now.turn (list_of_input l.last.of.net.now l.input.index)) (step_of l.last.run.now l.input.index (l.last.after + k))
      (listed_releases l.last.of.net.now l.input.index (l.last.after + k)) (date_at l.last.rows.now l.input.index k);
}
