use Rattle.run_rows.specs.ReadRuns.{IsColumn}
use Rattle.run_rows.proofs.columns.column.Given as goal

abbrev pub invariant-loop-place : goal.invariant-loop-place
invariant-loop-place l = IsColumn l.rows l.transition.index l.first l.place l.dates.items
