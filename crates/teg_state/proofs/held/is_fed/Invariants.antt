use Rattle.std.proofs.Common.{ℕ, ◌<◌, ◌≡◌, ◌⊎◌, Any}
use Rattle.teg_net.specs.Nets.{IsInput}
use Rattle.teg_state.proofs.held.is_fed.Given as goal

abbrev pub invariant-loop-index : goal.invariant-loop-index
invariant-loop-index l = (t : ℕ) → t < l.index → IsInput l.net t ⊎ Any (λ p. p.to.index ≡ t) l.net.places
