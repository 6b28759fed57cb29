-- The fewest further tokens over several places for a target ratio (chapters 2 and 3).
use Rattle.std.specs.Prelude.{ℕ, ◌+◌, ◌*◌, ◌<◌, ◌≤◌, ◌≡◌, ◌⊎◌, List, [], ◌∷◌, length, sum, All, Contains}
use Rattle.teg_net.specs.declared.entries.PlaceId.{PlaceId}
use Rattle.teg_net.specs.Changes.{with_tokens}
use Rattle.teg_net.specs.Circuits.{place_at, IsCircuit, BeginsLowest, time_of, tokens_of}
use Rattle.teg_net.specs.Limits.{most_place_tokens}
use Rattle.teg_net.specs.Nets.{NetLists}
use Rattle.teg_net.specs.Ratios.{Fraction}
use Rattle.token_shares.specs.declared.fewest.Shares.{Shares}
use Rattle.token_shares.specs.declared.fewest.Shares.TheVariants.{Enough, Impossible, More}

-- the net with so many further tokens in each place of the list; one that is listed twice has both numbers
abbrev pub with_further : NetLists → List PlaceId → List ℕ → NetLists
with_further net [] ds = net
with_further net (p ∷ places) [] = net
with_further net (p ∷ places) (d ∷ ds) = with_further (with_tokens net p ((place_at net p).tokens + d)) places ds

-- no circuit of the net is above the target: of time over tokens
abbrev pub KeepsTarget : NetLists → Fraction → Type 0
KeepsTarget net r = (ps : List PlaceId) → IsCircuit net ps → time_of net ps * r.tokens ≤ r.time * tokens_of net ps

-- a number for each place, and with so many further tokens no circuit of the net is above the target
pub record AreEnough (net : NetLists) (r : Fraction) (places : List PlaceId) (ds : List ℕ) : Type 0 where
  pub count : length ds ≡ length places
  pub kept : KeepsTarget (with_further net places ds) r

-- with so many further tokens no place has more than a net may have
abbrev pub HasRoom : NetLists → List PlaceId → List ℕ → Type 0
HasRoom net places ds = All (λ p. p.tokens ≤ most_place_tokens) (with_further net places ds).places

-- no numbers of a smaller sum than this are enough and find room
abbrev pub NoneIsEnoughBelow : NetLists → Fraction → List PlaceId → ℕ → Type 0
NoneIsEnoughBelow net r places n = (ds : List ℕ) → AreEnough net r places ds → HasRoom net places ds → n ≤ sum ds

-- they are enough, find room, have at most so many tokens in all, and none of a smaller sum do
pub record AreFewest (net : NetLists) (r : Fraction) (places : List PlaceId) (most : ℕ) (ds : List ℕ) : Type 0 where
  pub enough : AreEnough net r places ds
  pub room : HasRoom net places ds
  pub within : sum ds ≤ most
  pub least : NoneIsEnoughBelow net r places (sum ds)

-- a circuit above the target, told from its lowest numbered transition on
pub record IsAbove (net : NetLists) (r : Fraction) (ps : List PlaceId) : Type 0 where
  pub circuit : IsCircuit net ps
  pub lowest : BeginsLowest net ps
  pub above : r.time * tokens_of net ps < time_of net ps * r.tokens

-- the path passes none of the places
abbrev pub AvoidsAll : List PlaceId → List PlaceId → Type 0
AvoidsAll places ps = All (λ p. Contains ps p → ⊥) places

-- no circuit that avoids the places is above the target
abbrev pub OthersKeep : NetLists → Fraction → List PlaceId → Type 0
OthersKeep net r places = (ps : List PlaceId) → IsCircuit net ps → AvoidsAll places ps → time_of net ps * r.tokens ≤ r.time * tokens_of net ps

-- no numbers whatever are enough, for the sake of a circuit above the target: one that avoids the places or, where no such circuit is
-- above it, one that stands against a target of 0
pub record IsHopeless (net : NetLists) (r : Fraction) (places ps : List PlaceId) : Type 0 where
  pub none : (ds : List ℕ) → AreEnough net r places ds → ⊥
  pub above : IsAbove net r ps
  pub by : AvoidsAll places ps ⊎ ((r.time ≡ 0) × OthersKeep net r places)

-- some numbers are enough, though a place may have no room for them
abbrev pub SomeAreEnough : NetLists → Fraction → List PlaceId → Type 0
SomeAreEnough net r places = (ds : List ℕ) × AreEnough net r places ds

-- what is right to tell of the places, with so many further tokens at most
abbrev pub IsShares : NetLists → Fraction → List PlaceId → ℕ → Shares → Type 0
IsShares net r places most (Enough extra) = AreFewest net r places most extra.items
IsShares net r places most (Impossible circuit) = IsHopeless net r places circuit.places.items
IsShares net r places most More = SomeAreEnough net r places × NoneIsEnoughBelow net r places (most + 1)
