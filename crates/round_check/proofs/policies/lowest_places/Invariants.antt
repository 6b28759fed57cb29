use Rattle.std.proofs.Common.{ℕ, ◌<◌, ◌≡◌, length}
use Rattle.teg_net.specs.declared.entries.PlaceId.{PlaceId}
use Rattle.policy_rounds.specs.Policies.{Enters, first_id}
use Rattle.policy_rounds.specs.PolicyRounds.{IsLowestInto}
use Rattle.policy_rounds.specs.PolicyLists.{policy_of}
use Rattle.round_check.proofs.policies.lowest_places.Given as goal

abbrev pub invariant-loop-transition : goal.invariant-loop-transition
invariant-loop-transition l = record {
  count : length l.policy.items ≡ l.transition;
  lowest : (t : ℕ) → t < l.transition → (p : PlaceId) → Enters l.part.net.now l.part.parts.now l.part.number t p → IsLowestInto l.part.net.now l.part.parts.now l.part.number t (policy_of l.policy.items t);
  others : (t : ℕ) → t < l.transition → ((p : PlaceId) → Enters l.part.net.now l.part.parts.now l.part.number t p → ⊥) → policy_of l.policy.items t ≡ first_id;
}
