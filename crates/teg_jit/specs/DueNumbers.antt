-- Working definitions of the rows of a due list in the order of their numbers, and of the least dates at them.
use Rattle.std.specs.Prelude.{ℕ, pos, ◌<◌, ◌≤◌, ◌≡◌, List, length, All, Contains, map, slice_index_or}
use Rattle.std.specs.List.Sorted.{IsNonDecreasingBy}
use Rattle.date_rows.specs.dioid.declared.dates.Date.{Date}
use Rattle.date_rows.specs.dioid.declared.dates.Date.TheVariants.{At}
use Rattle.teg_net.specs.Nets.{NetLists}
use Rattle.date_rows.specs.DateCells.{date_of_cell}
use Rattle.date_rows.specs.DateTables.{most_numbers}
use Rattle.date_rows.specs.Streams.{FirstLists, AreFirstRowsOf, IsLeastRow}
use Rattle.teg_due.specs.declared.rows.DueRow.{DueRow}
use Rattle.teg_jit.specs.declared.due_numbers.Numbered.{Numbered}
use Rattle.teg_jit.specs.DueDates.{NameFirings}
use Rattle.teg_jit.specs.LatestCells.{most_cell_date}

-- the number of a firing that the row at this index names
pub record IsNumbered (rows : List DueRow) (o : Numbered) : Type 0 where
  pub in_range : o.index < length rows
  pub number : (d : DueRow) → (slice_index_or rows o.index d).number ≡ o.number

-- each row with its number, those of lower numbers first
pub record AreRowsNumbered (rows : List DueRow) (order : List Numbered) : Type 0 where
  pub known : All (IsNumbered rows) order
  pub all : (i : ℕ) (d : DueRow) → i < length rows → Contains order (record { number = (slice_index_or rows i d).number; index = i })
  pub sorted : IsNonDecreasingBy (λ o. o.number) order

-- after the first number, the cells have the dates of this number by the least dating of the net
abbrev pub HaveRow : NetLists → ℕ → List ℕ → Type 0
HaveRow net k cells = 1 ≤ k → IsLeastRow net k (map date_of_cell cells)

-- the rows name firings of the net, of numbers that a table may have, and the order has each with its number
pub record AreAsked (net : NetLists) (rows : List DueRow) (numbered : List Numbered) : Type 0 where
  pub order : AreRowsNumbered rows numbered
  pub due : NameFirings net rows
  pub few : All (λ r. r.number ≤ most_numbers) rows

-- first rows of the net, of which none was given
pub record NoRowsGiven (net : NetLists) (first : FirstLists) : Type 0 where
  pub stands : AreFirstRowsOf net first
  pub none : first.window.number ≡ 0

-- first rows of the net, and the cells have the dates of the last that was given
pub record HaveLastRow (net : NetLists) (first : FirstLists) (cells : List ℕ) : Type 0 where
  pub stands : AreFirstRowsOf net first
  pub row : HaveRow net first.window.number cells

-- the date that x gives to the firing of the row at this index
abbrev pub IsDateOfRow : (ℕ → ℕ → Date) → List DueRow → List ℕ → ℕ → Type 0
IsDateOfRow x rows dates i = (d : DueRow) → x (slice_index_or rows i d).transition.index (slice_index_or rows i d).number ≡ date_of_cell (slice_index_or dates i 0)

-- the dates that x gives to the firings of the rows
pub record AreDatesOfRows (x : ℕ → ℕ → Date) (rows : List DueRow) (dates : List ℕ) : Type 0 where
  pub count : length dates ≡ length rows
  pub each : (i : ℕ) → i < length rows → IsDateOfRow x rows dates i

-- the dates that x gives to the firings of the rows, each of which is a number
pub record AreNumbersOfRows (x : ℕ → ℕ → Date) (rows : List DueRow) (dates : List ℕ) : Type 0 where
  pub count : length dates ≡ length rows
  pub small : (i : ℕ) → i < length rows → slice_index_or dates i 0 < most_cell_date
  pub each : (i : ℕ) (d : DueRow) → i < length rows → x (slice_index_or rows i d).transition.index (slice_index_or rows i d).number ≡ At (pos (slice_index_or dates i 0))
