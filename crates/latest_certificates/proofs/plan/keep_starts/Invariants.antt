use Rattle.std.proofs.Common.{ℕ, ◌≤◌}
use Rattle.latest_certificates.specs.ToldStarts.{KeepsStarts}
use Rattle.latest_certificates.proofs.plan.keep_starts.Given as goal

abbrev pub invariant-loop-before : goal.invariant-loop-before
invariant-loop-before l = (k : ℕ) → 1 ≤ k → k ≤ l.before → KeepsStarts l.told k
