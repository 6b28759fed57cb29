-- Working definitions of the steps of a run: rounds that stand, better policies, and rounds that keep their circuit.
use Rattle.std.specs.Prelude.{ℕ, ◌+◌, ◌<◌, ◌≡◌, ◌↔◌, List, All, length, slice_index_or}
use Rattle.teg_net.specs.declared.entries.PlaceId.{PlaceId}
use Rattle.teg_net.specs.declared.rounds.Round.{Round}
use Rattle.teg_net.specs.Limits.{greatest_scaled_potential}
use Rattle.teg_net.specs.Nets.{NetLists}
use Rattle.teg_net.specs.Parts.{IsMember}
use Rattle.teg_net.specs.ReducedTimes.{IsMagnitudeWithin}
use Rattle.policy_rounds.specs.Policies.{IsChanged, IsImprovement}
use Rattle.policy_rounds.specs.PolicyRounds.{FollowsRound, IsFirstRound, IsRound, chosen, potential}
use Rattle.policy_rounds.specs.PolicyLists.{IsCircuitRatio, policy_of}
use Rattle.teg_parts.specs.Components.{IsMarked}
use Rattle.round_check.specs.declared.runs.Step.{Step}

-- ratio and potentials keep the limits of circuits
pub record KeepsLimits (r : Round) : Type 0 where
  pub ratio : IsCircuitRatio r.ratio
  pub values : All (λ c. IsMagnitudeWithin greatest_scaled_potential c.value) r.choices.items

-- the round is that of its policy, within limits
pub record Stands (net : NetLists) (parts : List ℕ) (part : ℕ) (r : Round) : Type 0 where
  pub round : IsRound net parts part r
  pub limits : KeepsLimits r

-- the better policy of a round, with the members that it changes
pub record IsStep (net : NetLists) (parts : List ℕ) (part : ℕ) (r : Round) (s : Step) : Type 0 where
  pub count : length s.policy.items ≡ length parts
  pub count_marks : length s.marks.items ≡ length parts
  pub improves : IsImprovement net parts part r.ratio.time r.ratio.tokens (chosen r) (potential r) (policy_of s.policy.items)
  pub marks : (t : ℕ) → IsMarked s.marks.items t ↔ IsChanged parts part (chosen r) (policy_of s.policy.items) t

-- each member has the place of the policy
abbrev pub HasPlacesOf : List ℕ → ℕ → List PlaceId → List PlaceId → Type 0
HasPlacesOf parts part policy own = (t : ℕ) → IsMember parts part t → policy_of own t ≡ policy_of policy t

-- the round has the circuit and the ratio of the one before, and each member has the place of the policy
pub record Keeps (parts : List ℕ) (part : ℕ) (before : Round) (policy : List PlaceId) (r : Round) : Type 0 where
  pub circuit : r.circuit.places.items ≡ before.circuit.places.items
  pub ratio : r.ratio ≡ before.ratio
  pub places : (t : ℕ) → IsMember parts part t → chosen r t ≡ policy_of policy t

-- each of the first rounds, so many, follows from the one before
abbrev pub AreFollowing : NetLists → List ℕ → ℕ → List Round → ℕ → Type 0
AreFollowing net parts part rounds n = (k : ℕ) (d : Round) → k + 1 < n → FollowsRound net parts part (slice_index_or rounds k d) (slice_index_or rounds (k + 1) d)

-- the first rounds, so many, are those that a policy run of the part begins with
pub record AreBegun (net : NetLists) (parts : List ℕ) (part : ℕ) (rounds : List Round) (n : ℕ) : Type 0 where
  pub first : (d : Round) → 0 < n → IsFirstRound net parts part (slice_index_or rounds 0 d)
  pub next : AreFollowing net parts part rounds n

-- the same, within limits
pub record HasBegun (net : NetLists) (parts : List ℕ) (part : ℕ) (rounds : List Round) (n : ℕ) : Type 0 where
  pub begun : AreBegun net parts part rounds n
  pub stand : (k : ℕ) (d : Round) → k < n → Stands net parts part (slice_index_or rounds k d)
