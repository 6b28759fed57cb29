-- A net with one number of a place changed, and what the change leaves as it was (chapter 2).
use Rattle.std.specs.Prelude.{ℕ, List, ◌≡◌, ◌≤◌, ◌⊎◌, ◌↔◌, length, slice_set}
use Rattle.teg_net.specs.declared.entries.Place.{Place}
use Rattle.teg_net.specs.declared.entries.PlaceId.{PlaceId}
use Rattle.teg_net.specs.Limits.{most_place_tokens}
use Rattle.teg_net.specs.Nets.{NetLists, lists_of}
use Rattle.teg_net.specs.Circuits.{place_at, IsCircuit, IsLive, tokens_of}

-- the net with this place at this number
abbrev pub with_place : NetLists → PlaceId → Place → NetLists
with_place net id p = lists_of net.transitions (slice_set net.places id.index p) net.inputs

-- the place with this holding time
abbrev pub place_with_hold : ℕ → Place → Place
place_with_hold hold p = record { name = p.name; from = p.from; to = p.to; hold = hold; tokens = p.tokens; ready = p.ready }

-- the net with this holding time of the place of this number
abbrev pub with_hold : NetLists → PlaceId → ℕ → NetLists
with_hold net id hold = with_place net id (place_with_hold hold (place_at net id))

-- the place with so many tokens
abbrev pub place_with_tokens : ℕ → Place → Place
place_with_tokens tokens p = record { name = p.name; from = p.from; to = p.to; hold = p.hold; tokens = tokens; ready = p.ready }

-- the net with so many tokens in the place of this number
abbrev pub with_tokens : NetLists → PlaceId → ℕ → NetLists
with_tokens net id tokens = with_place net id (place_with_tokens tokens (place_at net id))

-- a place of a net may have so many tokens, with the ready dates that it has: none, or one for each token
pub record MayHaveTokens (p : Place) (tokens : ℕ) : Type 0 where
  pub few : tokens ≤ most_place_tokens
  pub ready_all : (length p.ready ≡ 0) ⊎ (length p.ready ≡ tokens)

-- a change of a holding time leaves each place where it is, with its tokens
abbrev pub HoldsKeepPlaces : Type 0
HoldsKeepPlaces =
    (net : NetLists) (id : PlaceId) (hold : ℕ) (p : PlaceId)
    → ((place_at (with_hold net id hold) p).from ≡ (place_at net p).from)
    × ((place_at (with_hold net id hold) p).to ≡ (place_at net p).to)
    × ((place_at (with_hold net id hold) p).tokens ≡ (place_at net p).tokens)

-- a change of a holding time leaves the circuits, and the tokens of each
abbrev pub HoldsKeepCircuits : Type 0
HoldsKeepCircuits =
    (net : NetLists) (id : PlaceId) (hold : ℕ) (ps : List PlaceId)
    → (IsCircuit (with_hold net id hold) ps ↔ IsCircuit net ps)
    × (tokens_of (with_hold net id hold) ps ≡ tokens_of net ps)

-- a change of a holding time keeps a live net live
abbrev pub HoldsKeepLiveNets : Type 0
HoldsKeepLiveNets = (net : NetLists) (id : PlaceId) (hold : ℕ) → IsLive net → IsLive (with_hold net id hold)
