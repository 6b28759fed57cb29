use Rattle.std.proofs.Common.{ℕ, ◌<◌, ◌≡◌, get_or}
use Rattle.std.specs.Prelude.{pos}
use Rattle.teg_net.specs.declared.answers.Potential.{Potential}
use Rattle.pace_check.proofs.path_sums.is_nought_at.Given as goal

abbrev pub invariant-loop-told : goal.invariant-loop-told
invariant-loop-told l = (k : ℕ) (d : Potential) → k < l.told-index → (get_or l.potentials k d).transition.index ≡ l.start → (get_or l.potentials k d).value ≡ pos 0
