-- The value of paths against a target ratio, and the rounds in which the greatest values are found (chapter 3).
use Rattle.std.specs.Prelude.{ℕ, ℤ, pos, ◌+◌, ◌*◌, ◌+ℤ◌, ◌-ℤ◌, ◌≤ℤ◌, ◌<◌, ◌≤◌, ◌≡◌, ◌≢◌, List, [], length, All, Option, Some, None, slice_index_or}
use Rattle.teg_net.specs.declared.entries.PlaceId.{PlaceId}
use Rattle.teg_net.specs.declared.entries.Place.{Place}
use Rattle.teg_net.specs.Nets.{NetLists}
use Rattle.teg_net.specs.Ratios.{Fraction}
use Rattle.teg_net.specs.Circuits.{place_at, time_of, tokens_of}
use Rattle.teg_net.specs.Parts.{to_of}
use Rattle.teg_net.specs.ReducedTimes.{reduced_time_of_place}
use Rattle.teg_net.specs.Limits.{greatest_target_time, most_target_tokens}
use Rattle.teg_sizing.specs.declared.rounds.ValueCell.{ValueCell}

-- a target keeps its limits
pub record IsTarget (r : Fraction) : Type 0 where
  pub time : r.time ≤ greatest_target_time
  pub tokens : r.tokens ≤ most_target_tokens

-- the reduced time of a path at a target: its time times the target's tokens, less the target's time times its tokens; above 0
-- where the ratio of a circuit is above the target
abbrev pub reduced_time_of_path : NetLists → Fraction → List PlaceId → ℤ
reduced_time_of_path net r ps = pos (r.tokens * time_of net ps) -ℤ pos (r.time * tokens_of net ps)

-- no place of the path is this one
abbrev pub Avoids : PlaceId → List PlaceId → Type 0
Avoids p ps = All (λ q. q.index ≢ p.index) ps

-- what no reduced time of a place passes
abbrev pub greatest_reduced_time : ℕ
greatest_reduced_time = 1000000000000000

-- what no value of a round passes
abbrev pub most_value : ℕ
most_value = 1000 * greatest_reduced_time

-- what is told where there is no transition
abbrev pub no_cell : ValueCell
no_cell = record { value = None; by = None }

-- the value that is told of the transition
abbrev pub value_told : List ValueCell → ℕ → Option ℤ
value_told cells t = (slice_index_or cells t no_cell).value

-- the last place that is told of the transition
abbrev pub by_at : List ValueCell → ℕ → Option PlaceId
by_at cells t = (slice_index_or cells t no_cell).by

-- a value is told, and it is at least this
abbrev pub IsAtLeast : Option ℤ → ℤ → Type 0
IsAtLeast None x = ⊥
IsAtLeast (Some v) x = x ≤ℤ v

-- no value that is told passes this
abbrev pub AreValuesWithin : ℕ → List ValueCell → Type 0
AreValuesWithin most cells = (t : ℕ) (v : ℤ) → value_told cells t ≡ Some v → ((pos 0 -ℤ pos most) ≤ℤ v) × (v ≤ℤ pos most)

-- the value is what the place adds to that of its start, and the place is not the one that is left out
pub record IsOffered (r : Fraction) (except : PlaceId) (before : List ValueCell) (id : PlaceId) (place : Place) (offered : ℤ) : Type 0 where
  pub other : id.index ≢ except.index
  pub start : ℤ
  pub told : value_told before place.from.index ≡ Some start
  pub is : offered ≡ start +ℤ reduced_time_of_place r place

-- the values are the same as before, by no place
pub record AreFresh (before cells : List ValueCell) : Type 0 where
  pub count : length cells ≡ length before
  pub same : (t : ℕ) → value_told cells t ≡ value_told before t
  pub by_none : (t : ℕ) → by_at cells t ≡ None

-- the place ends at the transition, and its offer is told there, which is more than was told before
pub record IsTakenBy (net : NetLists) (r : Fraction) (except : PlaceId) (before after : List ValueCell) (t : ℕ) (p : PlaceId) : Type 0 where
  pub in_range : p.index < length net.places
  pub to : to_of net p ≡ t
  pub value : ℤ
  pub offered : IsOffered r except before p (place_at net p) value
  pub told : value_told after t ≡ Some value
  pub more : IsAtLeast (value_told before t) value → ⊥

-- the round after: each place but one offers; what is told is the greatest of the value before and of the offers
pub record IsRoundUpTo (net : NetLists) (r : Fraction) (except : PlaceId) (before : List ValueCell) (places : ℕ) (after : List ValueCell) : Type 0 where
  pub count : length after ≡ length before
  pub kept : (t : ℕ) (v : ℤ) → value_told before t ≡ Some v → IsAtLeast (value_told after t) v
  pub each : (p : PlaceId) (v : ℤ) → p.index < places → p.index < length net.places → IsOffered r except before p (place_at net p) v → IsAtLeast (value_told after (to_of net p)) v
  pub same : (t : ℕ) → by_at after t ≡ None → value_told after t ≡ value_told before t
  pub by_place : (t : ℕ) (p : PlaceId) → by_at after t ≡ Some p → IsTakenBy net r except before after t p

-- the round after, for which all places of the net have offered
abbrev pub IsRoundAfter : NetLists → Fraction → PlaceId → List ValueCell → List ValueCell → Type 0
IsRoundAfter net r except before after = IsRoundUpTo net r except before (length net.places) after

-- the round of this number
abbrev pub round_at : List (List ValueCell) → ℕ → List ValueCell
round_at rounds k = slice_index_or rounds k []

-- rounds one after another
pub record AreRounds (net : NetLists) (r : Fraction) (except : PlaceId) (first : List ValueCell) (rounds : List (List ValueCell)) : Type 0 where
  pub some : 1 ≤ length rounds
  pub first_is : round_at rounds 0 ≡ first
  pub counts : (k : ℕ) → k < length rounds → length (round_at rounds k) ≡ length net.transitions
  pub each : (k : ℕ) → k + 1 < length rounds → IsRoundAfter net r except (round_at rounds k) (round_at rounds (k + 1))
  pub within : (k : ℕ) → k < length rounds → AreValuesWithin (k * greatest_reduced_time) (round_at rounds k)
