use Rattle.std.proofs.Common.{ℕ, ◌<◌, ◌≡◌}
use Rattle.policy_rounds.specs.PolicyLists.{policy_of}
use Rattle.teg_parts.specs.Components.{IsMarked}
use Rattle.round_check.proofs.routing.keeps_home.Given as goal

abbrev pub invariant-loop-member : goal.invariant-loop-member
invariant-loop-member l = (t : ℕ) → t < l.member → IsMarked l.home t → policy_of l.routed t ≡ policy_of l.policy t
