-- Working definitions of the offers of places, by which a policy becomes better.
use Rattle.std.specs.Prelude.{ℕ, ℤ, pos, ◌<ℤ◌, ◌≤ℤ◌, ◌<◌, ◌≤◌, ◌≡◌, ◌⊎◌, List, Option, Some, None, length, slice_index_or}
use Rattle.teg_net.specs.declared.entries.PlaceId.{PlaceId}
use Rattle.teg_net.specs.declared.rounds.Choice.{Choice}
use Rattle.teg_net.specs.Nets.{NetLists}
use Rattle.teg_net.specs.Limits.{greatest_scaled_potential}
use Rattle.teg_net.specs.ReducedTimes.{IsMagnitudeWithin}
use Rattle.policy_rounds.specs.Policies.{Enters, Improves, IsGreatestOffer, offer_of}
use Rattle.policy_rounds.specs.PolicyRounds.{choice_of_member, chosen_place, value_in}
use Rattle.policy_rounds.specs.PolicyLists.{policy_of}
use Rattle.round_check.specs.declared.policies.Offer.{Offer}
use Rattle.round_check.specs.declared.policies.Spread.{Spread}

-- the value that a list gives to a transition, and 0 where it has none
abbrev pub values_at : List ℤ → ℕ → ℤ
values_at vs t = slice_index_or vs t (pos 0)

-- the places and the values that the choices give to each transition
pub record IsSpread (count : ℕ) (cs : List Choice) (s : Spread) : Type 0 where
  pub count_places : length s.policy.items ≡ count
  pub count_values : length s.values.items ≡ count
  pub places : (t : ℕ) → policy_of s.policy.items t ≡ chosen_place (choice_of_member cs t)
  pub values : (t : ℕ) → values_at s.values.items t ≡ value_in (choice_of_member cs t)

-- each value is of a magnitude that potentials of circuits keep
abbrev pub AreSmall : List ℤ → Type 0
AreSmall vs = (t : ℕ) → IsMagnitudeWithin greatest_scaled_potential (values_at vs t)

-- the greatest offer to the transition of places below i, of the lowest numbered place that makes it
pub record MostBelow (net : NetLists) (parts : List ℕ) (part a b : ℕ) (v : ℕ → ℤ) (t i : ℕ) (o : Offer) : Type 0 where
  pub enters : Enters net parts part t o.place
  pub value : o.value ≡ offer_of net a b v o.place
  pub before : o.place.index < i
  pub most : (q : PlaceId) → Enters net parts part t q → q.index < i → offer_of net a b v q ≤ℤ offer_of net a b v o.place
  pub lowest : (q : PlaceId) → Enters net parts part t q → q.index < i → offer_of net a b v q ≡ offer_of net a b v o.place → o.place.index ≤ q.index

-- that offer, or none where no place below i enters the transition
abbrev pub IsMostBelow : NetLists → List ℕ → ℕ → ℕ → ℕ → (ℕ → ℤ) → ℕ → ℕ → Option Offer → Type 0
IsMostBelow net parts part a b v t i None = (q : PlaceId) → Enters net parts part t q → q.index < i → ⊥
IsMostBelow net parts part a b v t i (Some o) = MostBelow net parts part a b v t i o

-- the first offer where it is at least the next one, and else the next one
abbrev pub IsGreaterOf : Option Offer → Offer → Option Offer → Type 0
IsGreaterOf None next result = result ≡ Some next
IsGreaterOf (Some first) next result = ((next.value ≤ℤ first.value) × (result ≡ Some first)) ⊎ ((first.value <ℤ next.value) × (result ≡ Some next))

-- the lowest numbered place of the greatest offer, where a place improves the transition, and else its own place
pub record IsBetterAt (net : NetLists) (parts : List ℕ) (part a b : ℕ) (v : ℕ → ℤ) (t : ℕ) (own p : PlaceId) : Type 0 where
  pub taken : (q : PlaceId) → Improves net parts part a b v t q → IsGreatestOffer net parts part a b v t p
  pub kept : ((q : PlaceId) → Improves net parts part a b v t q → ⊥) → p ≡ own
