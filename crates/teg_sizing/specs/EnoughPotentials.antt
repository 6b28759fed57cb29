-- Working definitions of the potentials that show a number of further tokens to be enough.
use Rattle.std.specs.Prelude.{ℕ, ℤ, pos, ◌*◌, ◌+ℤ◌, ◌≤ℤ◌, ◌<◌, ◌≡◌, ◌≢◌, ◌⊎◌, List, length, Option, Some, slice_index_or}
use Rattle.teg_net.specs.declared.entries.PlaceId.{PlaceId}
use Rattle.teg_net.specs.Nets.{NetLists}
use Rattle.teg_net.specs.Ratios.{Fraction}
use Rattle.teg_net.specs.Circuits.{place_at, from_of}
use Rattle.teg_net.specs.Parts.{to_of}
use Rattle.teg_net.specs.ReducedTimes.{reduced_time_of_place}
use Rattle.teg_sizing.specs.declared.rounds.ValueCell.{ValueCell}
use Rattle.teg_sizing.specs.ValueRounds.{value_told, IsAtLeast, AreValuesWithin}

-- what no value that is told passes
abbrev pub greatest_told : ℕ
greatest_told = 401000000000000000

-- what no value by way of the place passes, the further tokens counted
abbrev pub greatest_over : ℕ
greatest_over = 100000000000000000000000000000000

-- each place but the one left out tells its end no more than is told there, and values keep their limit
pub record AreValuesSettled (net : NetLists) (r : Fraction) (p : PlaceId) (cells : List ValueCell) : Type 0 where
  pub count : length cells ≡ length net.transitions
  pub steps :
      (q : PlaceId) → q.index < length net.places → q.index ≢ p.index → (u : ℤ) → value_told cells (from_of net q) ≡ Some u
      → IsAtLeast (value_told cells (to_of net q)) (u +ℤ reduced_time_of_place r (place_at net q))
  pub within : AreValuesWithin greatest_told cells

-- the values from everywhere, and those from the end of the place on, round which no value is gained with the further tokens
pub record AreBothSettled (net : NetLists) (r : Fraction) (p : PlaceId) (extra : ℕ) (apart back : List ValueCell) : Type 0 where
  pub apart_settled : AreValuesSettled net r p apart
  pub back_settled : AreValuesSettled net r p back
  pub each : (t : ℕ) → t < length net.transitions → IsAtLeast (value_told apart t) (pos 0)
  pub start : IsAtLeast (value_told back (to_of net p)) (pos 0)
  pub round : (b : ℤ) → value_told back (from_of net p) ≡ Some b → (b +ℤ reduced_time_of_place r (place_at net p)) ≤ℤ pos (r.time * extra)

-- the greater of the value from everywhere, and of the value from the end of the place on with what leads over the place, if it is told
pub record IsPotential (apart : ℤ) (back : Option ℤ) (over z : ℤ) : Type 0 where
  pub low : apart ≤ℤ z
  pub through : (b : ℤ) → back ≡ Some b → (b +ℤ over) ≤ℤ z
  pub is : (z ≡ apart) ⊎ ((b : ℤ) × (back ≡ Some b) × (z ≡ b +ℤ over))

-- the potential of a transition, of what is told of it
pub record IsPotentialOf (apart back : Option ℤ) (over z : ℤ) : Type 0 where
  pub own : ℤ
  pub told : apart ≡ Some own
  pub potential : IsPotential own back over z

-- the potential of each transition
pub record ArePotentialsOf (apart back : List ValueCell) (over : ℤ) (vs : List ℤ) : Type 0 where
  pub count : length vs ≡ length apart
  pub each : (t : ℕ) → t < length apart → IsPotentialOf (value_told apart t) (value_told back t) over (slice_index_or vs t (pos 0))
