use Rattle.std.proofs.Common.{ℕ, ◌<◌, ◌≡◌, ◌+◌}
use Rattle.dioid.specs.Dates.{move}
use Rattle.dating_certificates.specs.ToldRows.{date_told}
use Rattle.settled_certificates.specs.ToldForms.{step_told}
use Rattle.settled_certificates.proofs.told_form.FormTest.moves_at.Given as goal

abbrev pub invariant-loop-index : goal.invariant-loop-index
invariant-loop-index l = (t : ℕ) → t < l.index → date_told l.self.told t (l.number + l.self.period) ≡ move (step_told l.self t) (date_told l.self.told t l.number)
