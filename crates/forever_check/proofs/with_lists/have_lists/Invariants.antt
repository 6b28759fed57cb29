use Rattle.std.proofs.Common.{ℕ, ◌≡◌, ◌<◌}
use Rattle.std.specs.Prelude.{Any}
use Rattle.teg_net.specs.Nets.{IsInput}
use Rattle.forever_check.proofs.with_lists.have_lists.Given as goal

abbrev pub invariant-loop-index : goal.invariant-loop-index
invariant-loop-index l = (t : ℕ) → t < l.index → IsInput l.net t → Any (λ x. x.transition.index ≡ t) l.lists
