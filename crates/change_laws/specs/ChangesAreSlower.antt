-- Which changes of a net make it slower (chapter 2).
use Rattle.std.specs.Prelude.{ℕ, ◌≤◌, List, ◌++◌}
use Rattle.teg_net.specs.declared.entries.Place.{Place}
use Rattle.teg_net.specs.declared.entries.PlaceId.{PlaceId}
use Rattle.teg_net.specs.Nets.{NetLists, lists_of}
use Rattle.teg_net.specs.Circuits.{place_at}
use Rattle.teg_net.specs.Changes.{with_hold, with_tokens}
use Rattle.change_laws.specs.SlowerNets.{HasReadyDatesOfTokens, IsSlowerNet, HasSlowerPlaces}

-- the net with a longer holding time of a place is slower, and with a shorter one the net is slower than it
pub record LongerHoldsAreSlower : Type 0 where
  pub longer : (net : NetLists) (id : PlaceId) (hold : ℕ) → (place_at net id).hold ≤ hold → IsSlowerNet net (with_hold net id hold)
  pub shorter : (net : NetLists) (id : PlaceId) (hold : ℕ) → hold ≤ (place_at net id).hold → IsSlowerNet (with_hold net id hold) net

-- the net with fewer tokens in a place is slower, and with more the net is slower than it
pub record FewerTokensAreSlower : Type 0 where
  pub fewer : (net : NetLists) (id : PlaceId) (tokens : ℕ) → tokens ≤ (place_at net id).tokens → IsSlowerNet net (with_tokens net id tokens)
  pub more : (net : NetLists) (id : PlaceId) (tokens : ℕ) → (place_at net id).tokens ≤ tokens → IsSlowerNet (with_tokens net id tokens) net

-- the net with further places is slower
abbrev pub FurtherPlacesAreSlower : Type 0
FurtherPlacesAreSlower = (net : NetLists) (places : List Place) → IsSlowerNet net (lists_of net.transitions (net.places ++ places) net.inputs)

-- a net is slower than itself, and than one that a quicker net is slower than
pub record SlowerNetsAreOrdered : Type 0 where
  pub same : (net : NetLists) → IsSlowerNet net net
  pub chain : (net middle slower : NetLists) → HasReadyDatesOfTokens middle → IsSlowerNet net middle → IsSlowerNet middle slower → IsSlowerNet net slower

-- a slower net has slower places
abbrev pub SlowerNetsHaveSlowerPlaces : Type 0
SlowerNetsHaveSlowerPlaces = (net slower : NetLists) → IsSlowerNet net slower → HasSlowerPlaces net slower
