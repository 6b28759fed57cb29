use Rattle.std.proofs.Common.{◌≤◌}
use Rattle.forever_check.proofs.shortest.seems_to_go_on.Given as goal

abbrev pub invariant-loop-before : goal.invariant-loop-before
invariant-loop-before l = l.past ≤ l.before
