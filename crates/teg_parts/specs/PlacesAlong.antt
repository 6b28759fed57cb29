-- Working definitions of the places along which one may go from each transition.
use Rattle.std.specs.Prelude.{ℕ, ◌+◌, ◌<◌, ◌≤◌, ◌≡◌, List, length, slice_index_or}
use Rattle.teg_net.specs.declared.entries.PlaceId.{PlaceId}
use Rattle.teg_net.specs.declared.entries.Place.{Place}
use Rattle.teg_net.specs.declared.places_of.PlaceEnd.{PlaceEnd}
use Rattle.teg_net.specs.declared.places_of.PlaceEnd.TheVariants.{From, To}
use Rattle.teg_net.specs.Nets.{NetLists}
use Rattle.teg_net.specs.Circuits.{place_at}
use Rattle.teg_net.specs.Parts.{Reaches}
use Rattle.teg_net.specs.PlaceLists.{place_end, ArePlacesOf}
use Rattle.teg_parts.specs.declared.places_along.PlacesAlong.{PlacesAlong}

-- the transition to which one comes along a place, where one goes off at this end of it
abbrev pub far_in : PlaceEnd → Place → ℕ
far_in From place = place.to.index
far_in To place = place.from.index

-- the transition at which one goes off along the place of this number
abbrev pub near_of : PlaceEnd → NetLists → PlaceId → ℕ
near_of near net p = (place_end near (place_at net p)).index

-- and that to which one comes along it
abbrev pub far_of : PlaceEnd → NetLists → PlaceId → ℕ
far_of near net p = far_in near (place_at net p)

-- a path goes from transition a to transition b, onward or back
abbrev pub Leads : NetLists → PlaceEnd → ℕ → ℕ → Type 0
Leads net From a b = Reaches net a b
Leads net To a b = Reaches net b a

-- of each transition the places along which one may go from it
abbrev pub ArePlacesAlong : NetLists → PlacesAlong → Type 0
ArePlacesAlong net f = ArePlacesOf net f.near f.places

-- the list goes on with the places along which one may go from the transition
pub record AddsPlacesAlong (net : NetLists) (near : PlaceEnd) (t : ℕ) (old new : List PlaceId) : Type 0 where
  pub longer : length old ≤ length new
  pub few : length new ≤ length old + length net.places
  pub kept : (k : ℕ) (d : PlaceId) → k < length old → slice_index_or new k d ≡ slice_index_or old k d
  pub each : (k : ℕ) (d : PlaceId) → length old ≤ k → k < length new → ((slice_index_or new k d).index < length net.places) × (near_of near net (slice_index_or new k d) ≡ t)
  pub all : (p : PlaceId) → p.index < length net.places → near_of near net p ≡ t → (k : ℕ) × (length old ≤ k) × (k < length new) × (slice_index_or new k p ≡ p)
