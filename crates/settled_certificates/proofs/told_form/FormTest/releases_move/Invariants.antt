use Rattle.std.proofs.Common.{ℕ, ◌<◌}
use Rattle.settled_certificates.specs.ToldForms.{InputMoves}
use Rattle.settled_certificates.proofs.told_form.FormTest.releases_move.Given as goal

abbrev pub invariant-loop-index : goal.invariant-loop-index
invariant-loop-index l = (t : ℕ) → t < l.index → InputMoves l.self t
