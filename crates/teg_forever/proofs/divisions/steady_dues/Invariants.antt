use Rattle.teg_forever.specs.Divisions.{AreSteadyTo}
use Rattle.teg_forever.proofs.divisions.steady_dues.Given as goal

abbrev pub invariant-loop-place : goal.invariant-loop-place
invariant-loop-place l = AreSteadyTo l.rows l.place l.list.items
