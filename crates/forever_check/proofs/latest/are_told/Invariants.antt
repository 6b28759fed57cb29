use Rattle.std.proofs.Common.{ℕ, ◌<◌, ◌≤◌}
use Rattle.forever_check.specs.ReleaseWalks.{IsToldAt}
use Rattle.forever_check.proofs.latest.are_told.Given as goal

abbrev pub invariant-loop-before : goal.invariant-loop-before
invariant-loop-before l = (k : ℕ) → l.past < k → k ≤ l.before → IsToldAt l.net l.last l.dates l.list k
