use Rattle.std.proofs.Common.{ℕ, ◌<◌}
use Rattle.run_rows.specs.ReadRuns.{MovesInRows}
use Rattle.run_rows.proofs.turn.moves.Given as goal

abbrev pub invariant-loop-index : goal.invariant-loop-index
invariant-loop-index l = (t : ℕ) → t < l.index → MovesInRows l.last.after l.last.rows.now l.last.run.now l.from t
