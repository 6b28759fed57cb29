use Rattle.std.proofs.Common.{◌+◌, ◌-◌, ◌<◌, ◌≤◌}
use Rattle.walks_by_ends.specs.LatestTimes.{GoOnAt}
use Rattle.walks_by_ends.proofs.form.even_from.Given as goal

abbrev pub invariant-loop-low : goal.invariant-loop-low
invariant-loop-low l = record {
  begun : l.begin ≤ l.low;
  order : l.low ≤ l.high;
  short : l.high < l.limit;
  once : GoOnAt l.ways l.steps (l.high + 1);
}

abbrev pub decreases-loop-low : goal.decreases-loop-low
decreases-loop-low l = l.high - l.low
