use Rattle.std.proofs.Common.{ℕ, ◌<◌, ◌≤◌}
use Rattle.teg_net.specs.Nets.{IsInput}
use Rattle.run_rows.specs.TurnsLeft.{IsReleaseInTime}
use Rattle.run_rows.proofs.in_time.turns_of_inputs.Given as goal

abbrev pub invariant-loop-index : goal.invariant-loop-index
invariant-loop-index l = record {
  within : l.turns ≤ l.most;
  in_time : (t : ℕ) → t < l.index → IsInput l.last.of.net.now t → IsReleaseInTime l.turns l.last.after l.last.of.net.now l.last.rows.now l.last.run.now t;
}
