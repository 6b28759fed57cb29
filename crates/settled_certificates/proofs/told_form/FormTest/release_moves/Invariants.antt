use Rattle.std.proofs.Common.{ℕ, ◌<◌}
use Rattle.settled_certificates.specs.ToldForms.{ReleaseMovesAt}
use Rattle.settled_certificates.proofs.told_form.FormTest.release_moves.Given as goal

abbrev pub invariant-loop-number : goal.invariant-loop-number
invariant-loop-number l = (k : ℕ) → l.self.after < k → k < l.number → ReleaseMovesAt l.self l.transition.index k
