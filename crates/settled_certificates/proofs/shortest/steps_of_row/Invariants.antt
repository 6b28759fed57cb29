use Rattle.std.proofs.Common.{ℕ, ℤ, ◌+◌, ◌<◌, ◌≡◌}
use Rattle.std.specs.Prelude.{◌↔◌}
use Rattle.dioid.specs.Dates.{move}
use Rattle.settled_certificates.specs.StepsLeft.{IsLeft}
use Rattle.dating_certificates.specs.ToldRows.{date_told}
use Rattle.settled_certificates.proofs.shortest.steps_of_row.Given as goal

abbrev pub invariant-loop-number : goal.invariant-loop-number
invariant-loop-number l = (step : ℤ) → IsLeft l.left step ↔ ((k : ℕ) → l.fn.span.after < k → k < l.number → date_told l.told l.transition (k + l.by) ≡ move step (date_told l.told l.transition k))
