-- Parts of a net: a number for each transition, and the places whose ends have the same one (chapter 2).
use Rattle.std.specs.Prelude.{ℕ, ◌<◌, ◌≡◌, List, length, All, AllPairs, Contains, slice_index}
use Rattle.teg_net.specs.declared.entries.PlaceId.{PlaceId}
use Rattle.teg_net.specs.Nets.{NetLists}
use Rattle.teg_net.specs.Circuits.{place_at, from_of, IsPathBetween}

-- the number of the transition at which the place ends
abbrev pub to_of : NetLists → PlaceId → ℕ
to_of net id = (place_at net id).to.index

-- some path, perhaps empty, leads from transition a to transition b
abbrev pub Reaches : NetLists → ℕ → ℕ → Type 0
Reaches net a b = (ps : List PlaceId) × IsPathBetween net a ps b

-- the transition has the part's number
pub record IsMember (part_of : List ℕ) (part t : ℕ) : Type 0 where
  pub in_range : t < length part_of
  pub here : slice_index part_of t ≡ part

-- a place of the net with both ends in the part
pub record IsPlaceOfPart (net : NetLists) (part_of : List ℕ) (part : ℕ) (p : PlaceId) : Type 0 where
  pub in_range : p.index < length net.places
  pub from_member : IsMember part_of part (from_of net p)
  pub to_member : IsMember part_of part (to_of net p)

-- the list has each member of the part once, in order of number
pub record ListsMembers (part_of : List ℕ) (part : ℕ) (ts : List ℕ) : Type 0 where
  pub ordered : AllPairs (λ t u. t < u) ts
  pub only : All (IsMember part_of part) ts
  pub all : (t : ℕ) → IsMember part_of part t → Contains ts t
