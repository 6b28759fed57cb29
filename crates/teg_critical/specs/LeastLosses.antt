-- Working definitions of least sums of losses along paths, from one transition on, and of their search (Dijkstra's
-- algorithm).
use Rattle.std.specs.Prelude.{ℕ, ◌+◌, ◌*◌, ◌<◌, ◌≤◌, ◌≡◌, ◌⊎◌, Bool, true, List, length, All, Contains, IsSome, Option, Some, None, sum_by, slice_index_or}
use Rattle.std.specs.BinaryHeap.{IsHeap}
use Rattle.std.specs.Ordering.{nat_cmp, ordering_then}
use Rattle.std.specs.declared.cmp.Ordering.{Ordering}
use Rattle.std.specs.declared.cmp.Reverse.{Reverse}
use Rattle.teg_net.specs.declared.entries.PlaceId.{PlaceId}
use Rattle.teg_net.specs.declared.places_of.PlaceEnd.TheVariants.{From}
use Rattle.teg_net.specs.Limits.{most_transitions}
use Rattle.teg_net.specs.Nets.{NetLists}
use Rattle.teg_net.specs.Circuits.{from_of, IsPathBetween}
use Rattle.teg_net.specs.Parts.{to_of}
use Rattle.teg_net.specs.PlaceLists.{ArePlacesOf}
use Rattle.teg_critical.specs.declared.endings.Ending.{Ending}
use Rattle.teg_critical.specs.declared.losses.Loss.{Loss}
use Rattle.teg_critical.specs.Losses.{most_loss, loss_at, AreKeptSmall}

-- the amount of a loss, 0 where there is none
abbrev pub amount_in : Option Loss → ℕ
amount_in None = 0
amount_in (Some l) = l.amount

-- what the places of a path lose together
abbrev pub loss_of_path : List (Option Loss) → List PlaceId → ℕ
loss_of_path losses ps = sum_by (λ p. amount_in (loss_at losses p)) ps

-- a path of places that are told a loss
pub record IsWay (net : NetLists) (losses : List (Option Loss)) (a : ℕ) (ps : List PlaceId) (b : ℕ) : Type 0 where
  pub path : IsPathBetween net a ps b
  pub along : All (λ p. IsSome (loss_at losses p)) ps

-- the least that such a path loses; none where there is no such path
abbrev pub IsLeastLoss : NetLists → List (Option Loss) → ℕ → ℕ → Option ℕ → Type 0
IsLeastLoss net losses a b None = (ps : List PlaceId) → IsWay net losses a ps b → ⊥
IsLeastLoss net losses a b (Some d) = ((ps : List PlaceId) × IsWay net losses a ps b × (loss_of_path losses ps ≡ d)) × ((ps : List PlaceId) → IsWay net losses a ps b → d ≤ loss_of_path losses ps)

-- what is told of the transition
abbrev pub told_at : List (Option ℕ) → ℕ → Option ℕ
told_at least t = slice_index_or least t None

-- the least that the paths lose from the end of the place back to its start
pub record IsToldBack (net : NetLists) (losses : List (Option Loss)) (back : List (Option ℕ)) (e : Ending) : Type 0 where
  pub least : IsLeastLoss net losses e.end e.start (told_at back e.start)
  pub small : (d : ℕ) → told_at back e.start ≡ Some d → d ≤ most_transitions * most_loss

-- the same of several places
pub record AreToldBack (net : NetLists) (losses : List (Option Loss)) (back : List (Option ℕ)) (endings : List Ending) : Type 0 where
  pub count : length back ≡ length net.transitions
  pub each : All (IsToldBack net losses back) endings

-- ---- the search

-- what a search goes by: each place has its entry, no loss passes the most, and these are the places that leave each transition
pub record CanSearch (net : NetLists) (losses : List (Option Loss)) (lists : List (List PlaceId)) : Type 0 where
  pub count : length losses ≡ length net.places
  pub small : AreKeptSmall losses
  pub leaving : ArePlacesOf net From lists

-- place p leaves transition a, has a loss, and so offers d to transition b, from this base on
pub record Offers (net : NetLists) (losses : List (Option Loss)) (a base : ℕ) (p : PlaceId) (b d : ℕ) : Type 0 where
  pub in_range : p.index < length net.places
  pub from : from_of net p ≡ a
  pub to : to_of net p ≡ b
  pub told : IsSome (loss_at losses p)
  pub sum : base + amount_in (loss_at losses p) ≡ d

-- a number is told, and it is at most this
abbrev pub IsToldWithin : Option ℕ → ℕ → Type 0
IsToldWithin None x = ⊥
IsToldWithin (Some d) x = d ≤ x

-- the transition is settled, or not
abbrev pub is_settled : List Bool → ℕ → Bool
is_settled settled t = slice_index_or settled t true

-- the starts of these places are settled
abbrev pub AreSettled : List Bool → List Ending → Type 0
AreSettled settled endings = All (λ e. is_settled settled e.start ≡ true) endings

-- the place has no loss, or what it offers from this loss on is told, or less
abbrev pub IsTaken : NetLists → List (Option Loss) → ℕ → List (Option ℕ) → PlaceId → Type 0
IsTaken net losses base least p = IsSome (loss_at losses p) → IsToldWithin (told_at least (to_of net p)) (base + amount_in (loss_at losses p))

-- these places, which leave transition a, are taken from this loss on: what they offer is told where it is less
pub record IsRelaxed (net : NetLists) (losses : List (Option Loss)) (a base : ℕ) (places : List PlaceId) (old new : List (Option ℕ)) : Type 0 where
  pub count : length new ≡ length old
  pub taken : All (IsTaken net losses base new) places
  pub lowered : (t x : ℕ) → IsToldWithin (told_at old t) x → IsToldWithin (told_at new t) x
  pub by_place : (t d : ℕ) → told_at new t ≡ Some d → (told_at old t ≡ Some d) ⊎ ((p : PlaceId) × Offers net losses a base p t d)

-- ---- the queue

-- the loss of a path to a transition, and the transition
abbrev pub entry : ℕ → ℕ → Reverse (ℕ × ℕ)
entry loss at = record { 0 = (loss, at) }

-- the lesser loss comes first
abbrev pub nearest_first : Reverse (ℕ × ℕ) → Reverse (ℕ × ℕ) → Ordering
nearest_first x y = ordering_then (nat_cmp y.0.0 x.0.0) (nat_cmp y.0.1 x.0.1)

-- what is told anew is queued, and each new entry is of a loss that is told or of a greater one
pub record AreQueued (old new : List (Option ℕ)) (before after : List (Reverse (ℕ × ℕ))) : Type 0 where
  pub kept : (e : Reverse (ℕ × ℕ)) → Contains before e → Contains after e
  pub told : (t d : ℕ) → told_at new t ≡ Some d → (told_at old t ≡ Some d) ⊎ Contains after (entry d t)
  pub sound : (e : Reverse (ℕ × ℕ)) → Contains after e → Contains before e ⊎ IsToldWithin (told_at new e.0.1) e.0.0
  pub heap : IsHeap nearest_first before → IsHeap nearest_first after
