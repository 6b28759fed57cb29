use Rattle.std.proofs.Common.{◌≡◌, drop}
use Rattle.jump_laws.specs.Runs.{date_by_runs}
use Rattle.run_rows.proofs.runs.date_in.Given as goal

abbrev pub invariant-loop-run : goal.invariant-loop-run
invariant-loop-run l = date_by_runs (drop l.run-index l.runs) l.transition.index l.number ≡ date_by_runs l.runs l.transition.index l.number
