use Rattle.std.proofs.Common.{ℕ, ◌≤◌, ◌≡◌, length}
use Rattle.latest_certificates.specs.SolvedRows.{IsRowSolved}
use Rattle.latest_certificates.proofs.latest.are_solved.Given as goal

abbrev pub invariant-loop-before : goal.invariant-loop-before
invariant-loop-before l = (length l.met ≡ length l.told.net.transitions) × ((k : ℕ) → 1 ≤ k → k ≤ l.before → IsRowSolved l.told l.rows k)
