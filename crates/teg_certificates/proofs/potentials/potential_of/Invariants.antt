use Rattle.std.proofs.Common.{ℕ, ◌<◌, ◌≢◌, get_or}
use Rattle.teg_net.specs.declared.answers.Potential.{Potential}
use Rattle.teg_certificates.proofs.potentials.potential_of.Given as goal

abbrev pub invariant-loop-told : goal.invariant-loop-told
invariant-loop-told l = (k : ℕ) (d : Potential) → k < l.told-index → (get_or l.potentials k d).transition.index ≢ l.transition
