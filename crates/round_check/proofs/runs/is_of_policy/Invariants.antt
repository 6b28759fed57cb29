use Rattle.std.proofs.Common.{ℕ, ◌<◌, ◌≡◌, get_or}
use Rattle.teg_net.specs.declared.entries.PlaceId.{PlaceId}
use Rattle.teg_net.specs.Parts.{to_of}
use Rattle.policy_rounds.specs.PolicyLists.{policy_of}
use Rattle.round_check.proofs.runs.is_of_policy.Given as goal

abbrev pub invariant-loop-id : goal.invariant-loop-id
invariant-loop-id l = (k : ℕ) (d : PlaceId) → k < l.id-index → policy_of l.policy (to_of l.part.net.now (get_or l.circuit k d)) ≡ get_or l.circuit k d
