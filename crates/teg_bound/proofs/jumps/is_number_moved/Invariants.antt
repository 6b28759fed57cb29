use Rattle.std.proofs.Common.{ℕ, ◌≡◌, ◌+◌, ◌<◌}
use Rattle.periodic_laws.specs.settled_laws.DateDifferences.{between}
use Rattle.jump_laws.specs.Runs.{date_by_runs}
use Rattle.teg_bound.proofs.jumps.is_number_moved.Given as goal

abbrev pub invariant-loop-index : goal.invariant-loop-index
invariant-loop-index l = (t : ℕ) → t < l.index → between (date_by_runs l.rows.runs t l.number) (date_by_runs l.rows.runs t (l.number + l.period)) ≡ l.step
