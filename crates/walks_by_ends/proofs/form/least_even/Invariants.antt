use Rattle.std.proofs.Common.{ℕ, ◌<◌, ◌≤◌}
use Rattle.walks_by_ends.specs.LatestTimes.{GoOnAt}
use Rattle.walks_by_ends.proofs.form.least_even.Given as goal

abbrev pub invariant-loop-least : goal.invariant-loop-least
invariant-loop-least l = record {
  before : l.least ≤ l.from;
  again : (k : ℕ) → l.least < k → k ≤ l.from → GoOnAt l.ways l.steps k;
}

abbrev pub decreases-loop-least : goal.decreases-loop-least
decreases-loop-least l = l.least
