use Rattle.std.proofs.Common.{◌-◌, ◌≤◌}
use Rattle.teg_bound.proofs.jumps.seeming_start.Given as goal

abbrev pub invariant-halves : goal.invariant-halves
invariant-halves l = record {
  order : l.low ≤ l.high;
  top : l.high ≤ l.found.last;
}

abbrev pub decreases-halves : goal.decreases-halves
decreases-halves l = l.high - l.low
