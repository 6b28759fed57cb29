-- Working definitions of the greatest reduced times of walks to a row's transition, at the ratio of its gap to its firings.
use Rattle.std.specs.Prelude.{ℕ, ℤ, ◌≡◌, ◌≤◌, ◌+ℤ◌, ◌≤ℤ◌, List, Option, Some, None, slice_index_or}
use Rattle.teg_net.specs.declared.entries.Place.{Place}
use Rattle.teg_net.specs.Limits.{greatest_every, greatest_hold, greatest_input_date, most_place_tokens}
use Rattle.teg_net.specs.Ratios.{Fraction}
use Rattle.teg_net.specs.ReducedTimes.{reduced_time_of_place}
use Rattle.endless_due.specs.declared.row.EndlessRow.{EndlessRow}

-- the gap of a row for so many firings
abbrev pub row_ratio : EndlessRow → Fraction
row_ratio r = record { time = r.gap; tokens = r.every }

-- the row and the place are within their limits
pub record IsWeighable (r : EndlessRow) (p : Place) : Type 0 where
  pub every : r.every ≤ greatest_every
  pub gap : r.gap ≤ greatest_input_date
  pub hold : p.hold ≤ greatest_hold
  pub tokens : p.tokens ≤ most_place_tokens

-- what is told of a transition
abbrev pub time_told : List (Option ℤ) → ℕ → Option ℤ
time_told times t = slice_index_or times t None

-- where a time is told of the end of the place, one is of its start, which is no less than the place adds to it
abbrev pub IsKept : EndlessRow → List (Option ℤ) → Place → Type 0
IsKept r times p =
    (y : ℤ) → time_told times p.to.index ≡ Some y
    → (x : ℤ) × (time_told times p.from.index ≡ Some x) × ((reduced_time_of_place (row_ratio r) p +ℤ y) ≤ℤ x)
