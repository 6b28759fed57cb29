use Rattle.std.proofs.Common.{ℕ, ℤ, ◌<◌}
use Rattle.settled_certificates.specs.ShortestRows.{MovesBy}
use Rattle.dating_certificates.specs.ToldRows.{date_told}
use Rattle.settled_certificates.proofs.shortest.go_on_by.Given as goal

abbrev pub invariant-loop-index : goal.invariant-loop-index
invariant-loop-index l = (t : ℕ) → t < l.index → (step : ℤ) × MovesBy (date_told l.told t) l.fn.span.after l.fn.span.period l.by step
