-- Policies of a part: for each member one place that enters it.
use Rattle.std.specs.Prelude.{ℕ, zero, suc, ℤ, pos, ◌+ℤ◌, ◌<ℤ◌, ◌≤ℤ◌, ◌*◌, ◌<◌, ◌≤◌, ◌≡◌, ◌≢◌, ◌⊎◌, List, length, All, Any, take, slice_index_or}
use Rattle.teg_net.specs.declared.entries.PlaceId.{PlaceId}
use Rattle.teg_net.specs.Nets.{NetLists}
use Rattle.teg_net.specs.Circuits.{from_of, IsCircuit, time_of, tokens_of}
use Rattle.teg_net.specs.Parts.{IsMember, IsPlaceOfPart, to_of}
use Rattle.teg_net.specs.PartAnswers.{first_transition_of}
use Rattle.teg_net.specs.ReducedTimes.{reduced_time}

-- the place that the policy gives to a transition
abbrev pub Policy : Type 0
Policy = ℕ → PlaceId

-- a place in the part that ends at t
pub record Enters (net : NetLists) (parts : List ℕ) (part t : ℕ) (p : PlaceId) : Type 0 where
  pub inside : IsPlaceOfPart net parts part p
  pub ends : to_of net p ≡ t

-- each member of the part is given a place of the part that enters it
abbrev pub IsPolicy : NetLists → List ℕ → ℕ → Policy → Type 0
IsPolicy net parts part policy = (t : ℕ) → IsMember parts part t → Enters net parts part t (policy t)

-- the transition that is reached from t by following the policy's places backwards m times
abbrev pub step_back : NetLists → Policy → ℕ → ℕ → ℕ
step_back net policy zero t = t
step_back net policy (suc m) t = from_of net (policy (step_back net policy m t))

-- following backwards from t leads to s
abbrev pub LeadsBack : NetLists → Policy → ℕ → ℕ → Type 0
LeadsBack net policy t s = (m : ℕ) × (step_back net policy m t ≡ s)

-- place 0, which stands where no place is given
abbrev pub first_id : PlaceId
first_id = record { index = 0 }

-- a circuit in the part of which each place is the policy's, beginning at any of its transitions
pub record IsPolicyCircuit (net : NetLists) (parts : List ℕ) (part : ℕ) (policy : Policy) (ps : List PlaceId) : Type 0 where
  pub circuit : IsCircuit net ps
  pub inside : All (IsPlaceOfPart net parts part) ps
  pub own : All (λ p. policy (to_of net p) ≡ p) ps

-- the policy's circuit of greatest ratio among those through a transition of the kind, among equals the one with the lowest numbered transition
pub record IsBestCircuit (net : NetLists) (parts : List ℕ) (part : ℕ) (policy : Policy) (Kind : ℕ → Type 0) (c : List PlaceId) : Type 0 where
  pub is : IsPolicyCircuit net parts part policy c
  pub through : Any (λ p. Kind (to_of net p)) c
  pub greatest : (d : List PlaceId) → IsPolicyCircuit net parts part policy d → Any (λ p. Kind (to_of net p)) d → time_of net d * tokens_of net c ≤ time_of net c * tokens_of net d
  pub lowest : (d : List PlaceId) → IsPolicyCircuit net parts part policy d → Any (λ p. Kind (to_of net p)) d
      → time_of net d * tokens_of net c ≡ time_of net c * tokens_of net d → first_transition_of net c ≤ first_transition_of net d

-- routed to s once the places `joins` have joined their ends
abbrev pub IsRouted : NetLists → Policy → ℕ → List PlaceId → ℕ → Type 0
IsRouted net policy s joins t = LeadsBack net policy t s ⊎ Any (λ p. to_of net p ≡ t) joins

-- a place from a routed member to one that is not routed
pub record Joins (net : NetLists) (parts : List ℕ) (part : ℕ) (policy : Policy) (s : ℕ) (joins : List PlaceId) (p : PlaceId) : Type 0 where
  pub inside : IsPlaceOfPart net parts part p
  pub from_routed : IsRouted net policy s joins (from_of net p)
  pub to_unrouted : IsRouted net policy s joins (to_of net p) → ⊥

-- the lowest numbered such place
pub record JoinsNext (net : NetLists) (parts : List ℕ) (part : ℕ) (policy : Policy) (s : ℕ) (joins : List PlaceId) (p : PlaceId) : Type 0 where
  pub joins_ : Joins net parts part policy s joins p
  pub lowest : (q : PlaceId) → Joins net parts part policy s joins q → p.index ≤ q.index

-- the policy with every other member routed to s, place by place
pub record IsRouting (net : NetLists) (parts : List ℕ) (part : ℕ) (policy : Policy) (s : ℕ) (joins : List PlaceId) (routed : Policy) : Type 0 where
  pub each : (k : ℕ) → k < length joins → JoinsNext net parts part policy s (take k joins) (slice_index_or joins k first_id)
  pub all : (t : ℕ) → IsMember parts part t → IsRouted net policy s joins t
  pub kept : (t : ℕ) → IsMember parts part t → LeadsBack net policy t s → routed t ≡ policy t
  pub joined : All (λ p. routed (to_of net p) ≡ p) joins

-- 0 at s, and elsewhere the reduced time of the policy's place plus the potential of its start
pub record AreSums (net : NetLists) (parts : List ℕ) (part a b : ℕ) (policy : Policy) (s : ℕ) (v : ℕ → ℤ) : Type 0 where
  pub start : v s ≡ pos 0
  pub others : (t : ℕ) → IsMember parts part t → t ≢ s → v t ≡ (reduced_time net a b (policy t) +ℤ v (from_of net (policy t)))

-- what a place offers to its end
abbrev pub offer_of : NetLists → ℕ → ℕ → (ℕ → ℤ) → PlaceId → ℤ
offer_of net a b v p = reduced_time net a b p +ℤ v (from_of net p)

-- a place in the part that offers its end more than the potential there
pub record Improves (net : NetLists) (parts : List ℕ) (part a b : ℕ) (v : ℕ → ℤ) (t : ℕ) (p : PlaceId) : Type 0 where
  pub enters : Enters net parts part t p
  pub more : v t <ℤ offer_of net a b v p

-- the lowest numbered of the places into t that offer the most
pub record IsGreatestOffer (net : NetLists) (parts : List ℕ) (part a b : ℕ) (v : ℕ → ℤ) (t : ℕ) (p : PlaceId) : Type 0 where
  pub improves : Improves net parts part a b v t p
  pub greatest : (q : PlaceId) → Enters net parts part t q → offer_of net a b v q ≤ℤ offer_of net a b v p
  pub lowest : (q : PlaceId) → Enters net parts part t q → offer_of net a b v q ≡ offer_of net a b v p → p.index ≤ q.index

-- each member that a place improves takes the lowest numbered place of greatest offer, each other member keeps its place
pub record IsImprovement (net : NetLists) (parts : List ℕ) (part a b : ℕ) (policy : Policy) (v : ℕ → ℤ) (better : Policy) : Type 0 where
  pub taken : (t : ℕ) → IsMember parts part t → (p : PlaceId) × Improves net parts part a b v t p → IsGreatestOffer net parts part a b v t (better t)
  pub kept : (t : ℕ) → IsMember parts part t → ((p : PlaceId) → Improves net parts part a b v t p → ⊥) → better t ≡ policy t

-- a member that took another place
abbrev pub IsChanged : List ℕ → ℕ → Policy → Policy → ℕ → Type 0
IsChanged parts part policy better t = IsMember parts part t × (better t ≢ policy t)
