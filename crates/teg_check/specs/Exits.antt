-- Working definitions of the elimination: the exits of transitions towards those without a rank.
use Rattle.std.specs.Prelude.{ℕ, ◌+◌, ◌<◌, ◌≤◌, ◌≡◌, List, [], length, slice_index_or, Bool, true, false}
use Rattle.teg_net.specs.declared.entries.PlaceId.{PlaceId}
use Rattle.teg_net.specs.declared.places_of.PlaceEnd.TheVariants.{From}
use Rattle.teg_net.specs.Nets.{NetLists}
use Rattle.teg_net.specs.Circuits.{place_at, from_of}
use Rattle.teg_net.specs.PlaceLists.{ArePlacesOf}

-- the transition of this number has no rank yet
abbrev pub IsUnranked : List Bool → ℕ → Type 0
IsUnranked ranked t = slice_index_or ranked t true ≡ false

-- a place without tokens from this transition to one without a rank
pub record IsExit (net : NetLists) (ranked : List Bool) (from : ℕ) (id : PlaceId) : Type 0 where
  pub in_range : id.index < length net.places
  pub begins : from_of net id ≡ from
  pub no_tokens : (place_at net id).tokens ≡ 0
  pub ends_unranked : IsUnranked ranked (place_at net id).to.index

-- no place is an exit of this transition
abbrev pub HasNoExit : NetLists → List Bool → ℕ → Type 0
HasNoExit net ranked t = (id : PlaceId) → IsExit net ranked t id → ⊥

-- each transition without a rank has an exit
abbrev pub HaveExits : NetLists → List Bool → Type 0
HaveExits net ranked = (t : ℕ) → IsUnranked ranked t → HasNoExit net ranked t → ⊥

-- so many places at the end of a list of those that leave the transition are no exits of it
abbrev pub NoneIsExit : NetLists → List Bool → ℕ → List PlaceId → ℕ → Type 0
NoneIsExit net ranked t ids passed =
    (i : ℕ) (d : PlaceId) → i < length ids → length ids ≤ i + passed → IsExit net ranked t (slice_index_or ids i d) → ⊥

-- the places that leave each transition, of which so many at the end of each list are passed over: they are no exits
pub record AreExitsLeft (net : NetLists) (ranked : List Bool) (lists : List (List PlaceId)) (passed : List ℕ) : Type 0 where
  pub leaving : ArePlacesOf net From lists
  pub count_ranked : length ranked ≡ length net.transitions
  pub count : length passed ≡ length net.transitions
  pub no_exits : (t : ℕ) → NoneIsExit net ranked t (slice_index_or lists t []) (slice_index_or passed t 0)
