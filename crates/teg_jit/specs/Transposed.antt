-- Working definitions of latest dates that stand transition by transition, and of the same number by number.
use Rattle.std.specs.Prelude.{ℕ, ◌+◌, ◌*◌, ◌/◌, ◌%◌, ◌<◌, ◌≤◌, ◌≡◌, List, length, map, slice_index_or}
use Rattle.std.specs.List.{range_with_len}
use Rattle.teg_net.specs.Limits.{most_transitions}
use Rattle.date_rows.specs.DateTables.{most_numbers}
use Rattle.teg_jit.specs.declared.answers.LatestDate.{LatestDate}
use Rattle.teg_jit.specs.declared.answers.LatestDate.TheVariants.{Free}

-- where a date stands transition by transition, by where it stands number by number
abbrev pub transposed_place : ℕ → ℕ → ℕ → ℕ
transposed_place width numbers i = (i % width) * numbers + i / width

-- the dates number by number, by those transition by transition
abbrev pub listed_back : ℕ → ℕ → List LatestDate → List LatestDate
listed_back width numbers columns = map (λ i. slice_index_or columns (transposed_place width numbers i) Free) (range_with_len 0 (numbers * width))

-- there is a date for each transition and number, within the limits
pub record HasShape (width numbers : ℕ) (columns : List LatestDate) : Type 0 where
  pub width_in : width ≤ most_transitions
  pub numbers_in : numbers ≤ most_numbers
  pub full : length columns ≡ numbers * width

-- the first so many of the dates stand where they stand transition by transition
pub record AreTransposedTo (width numbers : ℕ) (dates columns : List LatestDate) (m : ℕ) : Type 0 where
  pub full : length columns ≡ numbers * width
  pub each : (i : ℕ) → i < m → slice_index_or columns (transposed_place width numbers i) Free ≡ slice_index_or dates i Free
