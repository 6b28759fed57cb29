-- Working definitions of the transitions that are reached from the end of a place, and of the path that they tell (chapter 2).
use Rattle.std.specs.Prelude.{ℕ, ◌+◌, ◌<◌, ◌≡◌, Bool, true, List, ◌∷◌, length, sum_by, All, IsSome, Option, Some, None, slice_index_or, slice_set}
use Rattle.teg_net.specs.declared.entries.PlaceId.{PlaceId}
use Rattle.teg_net.specs.declared.entries.Place.{Place}
use Rattle.teg_net.specs.Nets.{NetLists}
use Rattle.teg_net.specs.Circuits.{from_of}
use Rattle.teg_net.specs.Parts.{to_of}
use Rattle.teg_critical.specs.declared.hops.Hop.{Hop}

-- what is told of the transition; none where it is not reached
abbrev pub hop_at : List (Option Hop) → ℕ → Option Hop
hop_at hops t = slice_index_or hops t None

-- how many transitions are not reached
abbrev pub open_in : Option Hop → ℕ
open_in None = 1
open_in (Some h) = 0

abbrev pub open_count : List (Option Hop) → ℕ
open_count hops = sum_by open_in hops

-- the place may be used
abbrev pub IsUsable : List Bool → PlaceId → Type 0
IsUsable usable q = slice_index_or usable q.index true ≡ true

-- the count is below that of transitions
abbrev pub IsHopSmall : List (Option Hop) → ℕ → Type 0
IsHopSmall hops t = (h : Hop) → hop_at hops t ≡ Some h → h.count < length hops

-- the last place leads to the transition, from one that was reached before
pub record IsHopOn (net : NetLists) (usable : List Bool) (hops : List (Option Hop)) (t : ℕ) (h : Hop) : Type 0 where
  pub in_range : h.last.index < length net.places
  pub may : IsUsable usable h.last
  pub to : to_of net h.last ≡ t
  pub before : Hop
  pub told : hop_at hops (from_of net h.last) ≡ Some before
  pub count : h.count ≡ before.count + 1

-- what is told of a reached transition: it is the end of the first place, or a place leads to it
pub record IsHop (net : NetLists) (usable : List Bool) (first : PlaceId) (hops : List (Option Hop)) (t : ℕ) (h : Hop) : Type 0 where
  pub begins : h.count ≡ 0 → t ≡ to_of net first
  pub on : 0 < h.count → IsHopOn net usable hops t h
  pub small : h.count + open_count hops < length hops

-- the end of the first place is reached, and of each reached transition it is told how
pub record AreHops (net : NetLists) (usable : List Bool) (first : PlaceId) (hops : List (Option Hop)) : Type 0 where
  pub count : length hops ≡ length net.transitions
  pub start : IsSome (hop_at hops (to_of net first))
  pub each : (t : ℕ) (h : Hop) → hop_at hops t ≡ Some h → IsHop net usable first hops t h

-- a place whose start is reached and which may be used has its end reached
abbrev pub AreClosed : NetLists → List Bool → List (Option Hop) → Type 0
AreClosed net usable hops = (q : PlaceId) → q.index < length net.places → IsUsable usable q → IsSome (hop_at hops (from_of net q)) → IsSome (hop_at hops (to_of net q))

-- the end of the place is reached by it
pub record IsReachedNow (id : PlaceId) (p : Place) (old new : List (Option Hop)) : Type 0 where
  pub before : Hop
  pub from : hop_at old p.from.index ≡ Some before
  pub unreached : hop_at old p.to.index ≡ None
  pub is : new ≡ slice_set old p.to.index (Some (record { count = before.count + 1; last = id }))

-- the start of the place is not reached, or its end is
abbrev pub IsPassed : Place → List (Option Hop) → Type 0
IsPassed p hops = IsSome (hop_at hops p.from.index) → IsSome (hop_at hops p.to.index)

-- the place, and after it places that may be used
abbrev pub IsTrace : NetLists → List Bool → PlaceId → List PlaceId → Type 0
IsTrace net usable p ps = (others : List PlaceId) × (ps ≡ p ∷ others) × All (IsUsable usable) others

-- the place by which the transition was reached; none of the first one, and of one that is not reached
abbrev pub IsLastHop : Option Hop → Option PlaceId → Type 0
IsLastHop hop None = (h : Hop) → hop ≡ Some h → h.count ≡ 0
IsLastHop hop (Some last) = (h : Hop) × (hop ≡ Some h) × (0 < h.count) × (h.last ≡ last)

-- 1 where the transition is reached, and 0 where it is not
abbrev pub reached_number : Option Hop → ℕ
reached_number None = 0
reached_number (Some h) = 1
