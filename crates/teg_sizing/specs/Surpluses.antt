-- Working definitions of circuits above a target ratio, and of the best of those that pass a place.
use Rattle.std.specs.Prelude.{ℕ, ℤ, pos, ◌+◌, ◌≤ℤ◌, ◌<◌, ◌≤◌, ◌≡◌, ◌≢◌, List, length, Some, None, Contains}
use Rattle.teg_net.specs.declared.entries.PlaceId.{PlaceId}
use Rattle.teg_net.specs.Nets.{NetLists}
use Rattle.teg_net.specs.Ratios.{Fraction}
use Rattle.teg_net.specs.Circuits.{IsCircuit}
use Rattle.teg_net.specs.Parts.{to_of}
use Rattle.teg_sizing.specs.declared.rounds.ValueCell.{ValueCell}
use Rattle.teg_sizing.specs.ValueRounds.{reduced_time_of_path, Avoids, most_value, value_told, by_at}
use Rattle.teg_sizing.specs.TracedPaths.{AreOfNet, HaveToldAll}

-- no circuit that avoids the place is above the target
abbrev pub NoneIsAbove : NetLists → Fraction → PlaceId → Type 0
NoneIsAbove net r p = (ps : List PlaceId) → IsCircuit net ps → Avoids p ps → reduced_time_of_path net r ps ≤ℤ pos 0

-- a circuit that avoids the place and is above the target
pub record IsAboveApart (net : NetLists) (r : Fraction) (p : PlaceId) (ps : List PlaceId) : Type 0 where
  pub circuit : IsCircuit net ps
  pub avoids : Avoids p ps
  pub above : pos 1 ≤ℤ reduced_time_of_path net r ps

-- no circuit passes the place
abbrev pub NonePasses : NetLists → PlaceId → Type 0
NonePasses net p = (ps : List PlaceId) → IsCircuit net ps → Contains ps p → ⊥

-- a circuit that passes the place and has this value, which none of those that pass it exceeds
pub record IsBestThrough (net : NetLists) (r : Fraction) (p : PlaceId) (value : ℤ) (ps : List PlaceId) : Type 0 where
  pub circuit : IsCircuit net ps
  pub passes : Contains ps p
  pub is : value ≡ reduced_time_of_path net r ps
  pub greatest : (qs : List PlaceId) → IsCircuit net qs → Contains qs p → reduced_time_of_path net r qs ≤ℤ value
  pub small : value ≤ℤ pos most_value

-- the empty paths from all of so many transitions
pub record StartsEverywhere (count : ℕ) (cells : List ValueCell) : Type 0 where
  pub long : length cells ≡ count
  pub each : (t : ℕ) → t < count → value_told cells t ≡ Some (pos 0)
  pub others : (t : ℕ) → count ≤ t → value_told cells t ≡ None
  pub by_none : (t : ℕ) → by_at cells t ≡ None

-- the empty path from one of so many transitions
pub record StartsFrom (count start : ℕ) (cells : List ValueCell) : Type 0 where
  pub long : length cells ≡ count
  pub here : value_told cells start ≡ Some (pos 0)
  pub others : (t : ℕ) → t ≢ start → value_told cells t ≡ None
  pub by_none : (t : ℕ) → by_at cells t ≡ None

-- of this transition the round tells more than the one before, by a place
pub record IsToldMore (cells : List ValueCell) (t : ℕ) : Type 0 where
  pub in_range : t < length cells
  pub place : PlaceId
  pub by : by_at cells t ≡ Some place

-- the round tells of no transition more than the one before
abbrev pub NoneIsBetter : List ValueCell → Type 0
NoneIsBetter cells = (t : ℕ) → t < length cells → by_at cells t ≡ None

-- the rounds from everywhere by all places but this one, one more than there are transitions
pub record AreRoundsApart (net : NetLists) (r : Fraction) (p : PlaceId) (rounds : List (List ValueCell)) : Type 0 where
  pub first : List ValueCell
  pub starts : StartsEverywhere (length net.transitions) first
  pub told : HaveToldAll net r p first (length net.transitions + 1) rounds
  pub of_net : AreOfNet net rounds

-- the rounds from the end of the place by all places but this one, as many as there are transitions
pub record AreRoundsBack (net : NetLists) (r : Fraction) (p : PlaceId) (rounds : List (List ValueCell)) : Type 0 where
  pub first : List ValueCell
  pub starts : StartsFrom (length net.transitions) (to_of net p) first
  pub told : HaveToldAll net r p first (length net.transitions) rounds
  pub of_net : AreOfNet net rounds
