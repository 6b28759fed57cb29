use Rattle.std.proofs.Common.{ℕ, ◌<◌, ◌≤◌}
use Rattle.teg_model.specs.Datings.{implicit_place}
use Rattle.run_rows.specs.TurnsLeft.{IsPlaceInTime}
use Rattle.run_rows.proofs.in_time.turns_of_transitions.Given as goal

abbrev pub invariant-loop-index : goal.invariant-loop-index
invariant-loop-index l = record {
  within : l.turns ≤ l.most;
  in_time : (t : ℕ) → t < l.index → IsPlaceInTime l.turns l.last.after l.last.rows.now l.last.run.now (implicit_place t);
}
