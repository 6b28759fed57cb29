-- Paths and circuits of a net, their tokens, and what it means that a net is live (chapter 2).
use Rattle.std.specs.Prelude.{ℕ, ◌<◌, ◌≤◌, ◌≡◌, ◌≢◌, List, [], ◌∷◌, ◌++◌, length, take, drop, All, AllPairs, sum_by, slice_index_or, ⊤}
use Rattle.teg_net.specs.declared.entries.PlaceId.{PlaceId}
use Rattle.teg_net.specs.declared.entries.Place.{Place}
use Rattle.teg_net.specs.Nets.{NetLists}

-- what stands past the end of the list of places
abbrev pub no_place : Place
no_place = record { name = []; from = record { index = 0 }; to = record { index = 0 }; hold = 0; tokens = 0; ready = [] }

-- the place of this number
abbrev pub place_at : NetLists → PlaceId → Place
place_at net id = slice_index_or net.places id.index no_place

-- the number of the transition that the place leaves
abbrev pub from_of : NetLists → PlaceId → ℕ
from_of net id = (place_at net id).from.index

-- the places lead from transition a to transition b, each from where the one before ends
abbrev pub IsPathBetween : NetLists → ℕ → List PlaceId → ℕ → Type 0
IsPathBetween net a [] b = a ≡ b
IsPathBetween net a (p ∷ ps) b =
    (p.index < length net.places) × (from_of net p ≡ a) × IsPathBetween net (place_at net p).to.index ps b

-- each place ends where the next begins; the empty list is a path
abbrev pub IsPath : NetLists → List PlaceId → Type 0
IsPath net ps = (a b : ℕ) × IsPathBetween net a ps b

-- a path that is not empty, ends where it begins, and leaves no transition twice
pub record IsCircuit (net : NetLists) (ps : List PlaceId) : Type 0 where
  pub not_empty : 0 < length ps
  pub closed : (a : ℕ) × IsPathBetween net a ps a
  pub leaves_once : AllPairs (λ p q. from_of net p ≢ from_of net q) ps

-- each number is that of a place of the net
abbrev pub AreInRange : NetLists → List PlaceId → Type 0
AreInRange net ps = All (λ p. p.index < length net.places) ps

-- the sum of the holding times
abbrev pub time_of : NetLists → List PlaceId → ℕ
time_of net ps = sum_by (λ p. (place_at net p).hold) ps

-- the sum of the tokens
abbrev pub tokens_of : NetLists → List PlaceId → ℕ
tokens_of net ps = sum_by (λ p. (place_at net p).tokens) ps

-- no place leaves a lower numbered transition than the first
abbrev pub BeginsLowest : NetLists → List PlaceId → Type 0
BeginsLowest net [] = ⊤
BeginsLowest net (first ∷ ps) = All (λ p. from_of net first ≤ from_of net p) ps

-- qs has the places of ps in the same order, begun at any of them
abbrev pub IsTurned : List PlaceId → List PlaceId → Type 0
IsTurned ps qs = (k : ℕ) × (k ≤ length ps) × (qs ≡ drop k ps ++ take k ps)

-- a circuit without tokens, told from its lowest numbered transition on
pub record IsTokenFree (net : NetLists) (ps : List PlaceId) : Type 0 where
  pub circuit : IsCircuit net ps
  pub no_tokens : tokens_of net ps ≡ 0
  pub lowest_first : BeginsLowest net ps

-- no circuit is without tokens
abbrev pub IsLive : NetLists → Type 0
IsLive net = (ps : List PlaceId) → IsCircuit net ps → tokens_of net ps ≡ 0 → ⊥
