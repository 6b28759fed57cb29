-- Working definitions of how potentials spread along a policy: each transition's followers, and what has a value.
use Rattle.std.specs.Prelude.{ℕ, ℤ, pos, ◌+ℤ◌, ◌*◌, ◌<◌, ◌≡◌, ◌≢◌, List, [], ◌∷◌, length, All, Option, Some, None, is_some, count_by, slice_index_or}
use Rattle.teg_net.specs.declared.entries.PlaceId.{PlaceId}
use Rattle.teg_net.specs.Nets.{NetLists, IsNet}
use Rattle.teg_net.specs.Circuits.{from_of}
use Rattle.teg_net.specs.Ratios.{Fraction}
use Rattle.teg_net.specs.Parts.{IsMember}
use Rattle.teg_net.specs.ReducedTimes.{reduced_time, IsMagnitudeWithin}
use Rattle.teg_howard.specs.declared.following.Followers.{Followers}
use Rattle.policy_rounds.specs.Policies.{Policy, IsPolicy, LeadsBack}
use Rattle.teg_howard.specs.FoundCircuits.{value_held}
use Rattle.policy_rounds.specs.PolicyLists.{IsCircuitRatio, policy_of, step_bound}

-- a member, not the root, whose place starts at x
pub record IsFollowerOf (net : NetLists) (parts : List ℕ) (part : ℕ) (policy : Policy) (root x t : ℕ) : Type 0 where
  pub member : IsMember parts part t
  pub other : t ≢ root
  pub starts : from_of net (policy t) ≡ x

-- the highest numbered of them below the bound
abbrev pub IsHighestFollowerBelow : NetLists → List ℕ → ℕ → Policy → ℕ → ℕ → ℕ → Option ℕ → Type 0
IsHighestFollowerBelow net parts part policy root x bound None = (t : ℕ) → t < bound → IsFollowerOf net parts part policy root x t → ⊥
IsHighestFollowerBelow net parts part policy root x bound (Some q) =
    (q < bound) × IsFollowerOf net parts part policy root x q × ((t : ℕ) → q < t → t < bound → IsFollowerOf net parts part policy root x t → ⊥)

-- for each transition the highest numbered of them, and for each of them the next lower one
pub record AreFollowers (net : NetLists) (parts : List ℕ) (part : ℕ) (policy : Policy) (root : ℕ) (f : Followers) : Type 0 where
  pub highest_count : length f.highest.items ≡ length parts
  pub lower_count : length f.lower.items ≡ length parts
  pub highest : (x : ℕ) → x < length parts → IsHighestFollowerBelow net parts part policy root x (length parts) (slice_index_or f.highest.items x None)
  pub lower : (x t : ℕ) → IsFollowerOf net parts part policy root x t → IsHighestFollowerBelow net parts part policy root x t (slice_index_or f.lower.items t None)

-- the member as a list, if there is one
abbrev pub listed_member : Option ℕ → List ℕ
listed_member None = []
listed_member (Some t) = t ∷ []

-- only the root has a value, 0
pub record HasRootAlone (count root : ℕ) (vs : List (Option ℤ)) : Type 0 where
  pub all : length vs ≡ count
  pub start : value_held vs root ≡ Some (pos 0)
  pub others : (t : ℕ) → t ≢ root → value_held vs t ≡ None

-- how many have a value
abbrev pub filled : List (Option ℤ) → ℕ
filled vs = count_by is_some vs

-- each value is the sum of what the places count from s on
pub record Valued (net : NetLists) (parts : List ℕ) (part a b s : ℕ) (policy : Policy) (vs : List (Option ℤ)) : Type 0 where
  pub count : length vs ≡ length parts
  pub start : value_held vs s ≡ Some (pos 0)
  pub members : (t : ℕ) (z : ℤ) → value_held vs t ≡ Some z → IsMember parts part t
  pub sums : (t : ℕ) (z : ℤ) → value_held vs t ≡ Some z → t ≢ s → (y : ℤ) × (value_held vs (from_of net (policy t)) ≡ Some y) × (z ≡ (reduced_time net a b (policy t) +ℤ y))
  pub small : (t : ℕ) (z : ℤ) → value_held vs t ≡ Some z → IsMagnitudeWithin (filled vs * step_bound) z

-- each value is the sum of what the places count from s on, and the transitions that have one lead back to s
pub record Followed (net : NetLists) (parts : List ℕ) (part a b s : ℕ) (policy : Policy) (vs : List (Option ℤ)) : Type 0 where
  pub valued : Valued net parts part a b s policy vs
  pub home : (t : ℕ) (z : ℤ) → value_held vs t ≡ Some z → LeadsBack net policy t s

-- what potentials need to spread
pub record CanFollow (net : NetLists) (parts : List ℕ) (part : ℕ) (policy : List PlaceId) (r : Fraction) (root : ℕ) : Type 0 where
  pub kept : IsNet net
  pub count_parts : length parts ≡ length net.transitions
  pub count : length policy ≡ length parts
  pub is_policy : IsPolicy net parts part (policy_of policy)
  pub in_range : All (λ p. p.index < length net.places) policy
  pub member : IsMember parts part root
  pub small : IsCircuitRatio r
