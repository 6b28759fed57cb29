use Rattle.std.proofs.Common.{ℕ, ◌<◌}
use Rattle.settled_certificates.specs.ToldForms.{StaysStill}
use Rattle.settled_certificates.proofs.told_form.FormTest.stay_still.Given as goal

abbrev pub invariant-loop-index : goal.invariant-loop-index
invariant-loop-index l = (t : ℕ) → t < l.index → StaysStill l.self t
