use Rattle.std.proofs.Common.{ℕ, ◌<◌}
use Rattle.settled_certificates.specs.ToldForms.{MovesAt}
use Rattle.settled_certificates.proofs.told_form.FormTest.moves_on.Given as goal

abbrev pub invariant-loop-number : goal.invariant-loop-number
invariant-loop-number l = (k : ℕ) → l.self.after < k → k < l.number → MovesAt l.self k
