-- Rows of dates, all of them kept, and when they are those of the least dating of a system.
use Rattle.std.specs.Prelude.{ℕ, ◌+◌, ◌*◌, ◌<◌, ◌≤◌, ◌≡◌, ◌^◌, List, length}
use Rattle.dioid.specs.declared.dates.Date.{Date}
use Rattle.teg_net.specs.Limits.{most_transitions, greatest_hold, greatest_firing_number, most_rows}
use Rattle.teg_net.specs.Nets.{NetLists, IsNet}
use Rattle.teg_model.specs.Systems.{System, IsLeastIn}
use Rattle.teg_model.specs.Datings.{listed_releases, system_of}
use Rattle.teg_model.specs.DateBounds.{IsBoundedBy}
use Rattle.date_rows.specs.DateTables.{TableDates, HasDatesOf, date_in_list}

-- a bound of initial dates and of releases that leaves room for all holds up to the greatest number
abbrev pub greatest_first : ℕ
greatest_first = 2 ^ 120

-- there is a date for each transition and number, within the limits
pub record IsRows (rows : TableDates) : Type 0 where
  pub width_in : rows.width ≤ most_transitions
  pub count_in : rows.count ≤ most_rows
  pub full : length rows.dates ≡ rows.count * rows.width

-- the initial dates and the releases up to the greatest number are from 0 to the bound, or none
abbrev pub KeepsBounds : System → Type 0
KeepsBounds s = (first : ℕ → ℕ) × IsBoundedBy s greatest_hold first × (first greatest_firing_number ≤ greatest_first)

-- numbers of rows that can be made in cells of eight bytes
abbrev pub most_in_cells : ℕ
most_in_cells = 1000000

-- beside that, those up to there leave room for all holds in eight bytes
abbrev pub KeepsShortBounds : System → Type 0
KeepsShortBounds s =
    (first : ℕ → ℕ) × IsBoundedBy s greatest_hold first × (first greatest_firing_number ≤ greatest_first) × (first most_in_cells ≤ 2 ^ 61)

-- the ready dates and the input lists of a net are so
abbrev pub NetsKeepBounds : Type 0
NetsKeepBounds = (net : NetLists) → IsNet net → KeepsBounds (system_of net (listed_releases net))

-- and those of the first numbers
abbrev pub NetsKeepShortBounds : Type 0
NetsKeepShortBounds = (net : NetLists) → IsNet net → KeepsShortBounds (system_of net (listed_releases net))

-- with the initial dates and the releases of numbers up to k, all holds up to there come to at most so much
abbrev pub StaysWithin : ℕ → ℕ → System → Type 0
StaysWithin most k s = (first : ℕ → ℕ) × IsBoundedBy s greatest_hold first × (first k + greatest_hold * (k * most_transitions + most_transitions) ≤ most)

-- the rows have the width of the net, and the dates of the system's least dating
pub record AreLeastRows (net : NetLists) (s : System) (rows : TableDates) : Type 0 where
  pub width : rows.width ≡ length net.transitions
  pub least : (x : ℕ → ℕ → Date) → IsLeastIn s x → HasDatesOf net x rows

-- the system has a least dating
abbrev pub HasLeastDating : System → Type 0
HasLeastDating s = (x : ℕ → ℕ → Date) × IsLeastIn s x

-- the dates of numbers 1 to count, and nothing else
pub record AreFirst (net : NetLists) (x : ℕ → ℕ → Date) (count : ℕ) (dates : List Date) : Type 0 where
  pub full : length dates ≡ count * length net.transitions
  pub same : (t k : ℕ) → t < length net.transitions → 1 ≤ k → k ≤ count
      → date_in_list (length net.transitions) dates t k ≡ x t k
