use Rattle.std.proofs.Common.{ℕ, ◌<◌, ◌≤◌, ◌%◌, ◌≡◌, length}
use Rattle.settled_certificates.specs.ShortestRows.{GoOnBy}
use Rattle.dating_certificates.specs.ToldRows.{date_told}
use Rattle.settled_certificates.proofs.shortest.is_least_period.Given as goal

abbrev pub invariant-loop-by : goal.invariant-loop-by
invariant-loop-by l = (p : ℕ) → 1 ≤ p → p < l.by → l.fn.span.period % p ≡ 0 → GoOnBy (length l.told.net.transitions) (date_told l.told) l.fn.span.after l.fn.span.period p → ⊥
