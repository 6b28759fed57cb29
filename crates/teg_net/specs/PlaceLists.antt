-- Places listed by the transitions at which they have an end (chapter 2).
use Rattle.std.specs.Prelude.{ℕ, ◌<◌, ◌≡◌, List, [], length, All, AllPairs, Contains, slice_index_or}
use Rattle.teg_net.specs.declared.entries.Place.{Place}
use Rattle.teg_net.specs.declared.entries.PlaceId.{PlaceId}
use Rattle.teg_net.specs.declared.entries.TransitionId.{TransitionId}
use Rattle.teg_net.specs.declared.places_of.PlaceEnd.{PlaceEnd}
use Rattle.teg_net.specs.declared.places_of.PlaceEnd.TheVariants.{From, To}
use Rattle.teg_net.specs.Nets.{NetLists}
use Rattle.teg_net.specs.Circuits.{place_at}

-- the transition at which the place has this end
abbrev pub place_end : PlaceEnd → Place → TransitionId
place_end From p = p.from
place_end To p = p.to

-- the places of the net that have this end at transition t: each once, in order of number, and no other
pub record ListsPlacesAt (net : NetLists) (which : PlaceEnd) (t : ℕ) (ids : List PlaceId) : Type 0 where
  pub known : All (λ p. p.index < length net.places) ids
  pub right : All (λ p. (place_end which (place_at net p)).index ≡ t) ids
  pub all : (p : PlaceId) → p.index < length net.places → (place_end which (place_at net p)).index ≡ t → Contains ids p
  pub rising : AllPairs (λ p q. p.index < q.index) ids

-- such a list for each transition of the net
pub record ArePlacesOf (net : NetLists) (which : PlaceEnd) (lists : List (List PlaceId)) : Type 0 where
  pub count : length lists ≡ length net.transitions
  pub each : (t : ℕ) → t < length net.transitions → ListsPlacesAt net which t (slice_index_or lists t [])
