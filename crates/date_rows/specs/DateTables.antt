-- Tables of dates: those of number 1 of each transition, then those of number 2, and so on.
use Rattle.std.specs.Prelude.{ℕ, ◌+◌, ◌-◌, ◌*◌, ◌<◌, ◌≤◌, ◌≡◌, List, length, slice_index_or}
use Rattle.dioid.specs.declared.dates.Date.{Date}
use Rattle.dioid.specs.declared.dates.Date.TheVariants.{Early}
use Rattle.teg_net.specs.Nets.{NetLists}
use Rattle.teg_net.specs.Limits.{most_transitions}
use Rattle.teg_model.specs.Datings.{IsLeastDating, listed_releases}
use Rattle.teg_model.specs.WalkDates.{IsGreatestOfWalks}

-- numbers of a table
abbrev pub most_numbers : ℕ
most_numbers = 10000

-- how many transitions and numbers there are, and the dates
pub record TableDates : Type 0 where
  pub width : ℕ
  pub count : ℕ
  pub dates : List Date

-- the place of a firing's date in the list
abbrev pub firing_position : ℕ → ℕ → ℕ → ℕ
firing_position width t k = (k - 1) * width + t

-- the date in such a list
abbrev pub date_in_list : ℕ → List Date → ℕ → ℕ → Date
date_in_list width dates t k = slice_index_or dates (firing_position width t k) Early

-- the date of firing k of transition t
abbrev pub date_at : TableDates → ℕ → ℕ → Date
date_at table t k = date_in_list table.width table.dates t k

-- there is a date for each transition and number, within the limits
pub record IsDateTable (table : TableDates) : Type 0 where
  pub width_in : table.width ≤ most_transitions
  pub count_in : table.count ≤ most_numbers
  pub full : length table.dates ≡ table.count * table.width

-- the table has the dates that x gives to its firings
abbrev pub HasDatesOf : NetLists → (ℕ → ℕ → Date) → TableDates → Type 0
HasDatesOf net x table = (t k : ℕ) → t < length net.transitions → 1 ≤ k → k ≤ table.count → date_at table t k ≡ x t k

-- the dates of the table are those of the least dating
abbrev pub HasLeastDates : NetLists → TableDates → Type 0
HasLeastDates net table = (x : ℕ → ℕ → Date) × IsLeastDating net x × HasDatesOf net x table

-- each date of the table is the greatest start plus time of the walks that end there
abbrev pub HasDatesOfWalks : NetLists → TableDates → Type 0
HasDatesOfWalks net table = (t k : ℕ) → t < length net.transitions → 1 ≤ k → k ≤ table.count → IsGreatestOfWalks net (listed_releases net) t k (date_at table t k)
