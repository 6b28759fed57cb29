use Rattle.std.proofs.Common.{ℕ, ◌<◌, get_or}
use Rattle.teg_net.specs.Circuits.{no_place}
use Rattle.settled_certificates.specs.ToldForms.{RisesAlong}
use Rattle.settled_certificates.proofs.told_form.FormTest.steps_rise.Given as goal

abbrev pub invariant-loop-index : goal.invariant-loop-index
invariant-loop-index l = (q : ℕ) → q < l.index → RisesAlong l.self (get_or l.self.told.net.places q no_place)
