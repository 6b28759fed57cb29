-- Working definitions of the places of a part as a list.
use Rattle.std.specs.Prelude.{ℕ, ◌<◌, ◌≤◌, ◌≡◌, ◌≢◌, List, length, All, AllPairs, Contains, slice_index_or}
use Rattle.teg_net.specs.declared.entries.PlaceId.{PlaceId}
use Rattle.teg_net.specs.Nets.{NetLists}
use Rattle.teg_net.specs.Circuits.{from_of}
use Rattle.teg_net.specs.Parts.{IsPlaceOfPart}
use Rattle.policy_rounds.specs.Policies.{first_id}

-- the list has each place of the part once, in order of number
pub record ListsPlaces (net : NetLists) (parts : List ℕ) (part : ℕ) (ids : List PlaceId) : Type 0 where
  pub ordered : AllPairs (λ p q. p.index < q.index) ids
  pub only : All (IsPlaceOfPart net parts part) ids
  pub all : (p : PlaceId) → IsPlaceOfPart net parts part p → Contains ids p

-- the rank in the list of the first place that leaves t, and the length of the list where none does
pub record IsFirstExit (net : NetLists) (ids : List PlaceId) (t rank : ℕ) : Type 0 where
  pub within : rank ≤ length ids
  pub leaves : rank < length ids → from_of net (slice_index_or ids rank first_id) ≡ t
  pub none_before : (k : ℕ) → k < rank → from_of net (slice_index_or ids k first_id) ≢ t

-- that of each transition
pub record AreFirstExits (net : NetLists) (ids : List PlaceId) (exits : List ℕ) : Type 0 where
  pub count : length exits ≡ length net.transitions
  pub first : (t : ℕ) → t < length exits → IsFirstExit net ids t (slice_index_or exits t 0)

-- the places of the part, and for each transition the first of them that leaves it
pub record AreInner (net : NetLists) (parts : List ℕ) (part : ℕ) (ids : List PlaceId) (ranks : List ℕ) : Type 0 where
  pub lists : ListsPlaces net parts part ids
  pub exits : AreFirstExits net ids ranks
