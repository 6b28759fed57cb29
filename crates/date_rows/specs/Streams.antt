-- Rows of the least dating of a net, one after another, of which only the last are kept.
use Rattle.std.specs.Prelude.{ℕ, ◌+◌, ◌-◌, ◌*◌, ◌≤◌, ◌≡◌, List, length, min, All, slice_index_or}
use Rattle.dioid.specs.declared.dates.Date.{Date}
use Rattle.dioid.specs.declared.dates.Date.TheVariants.{Early}
use Rattle.teg_net.specs.Nets.{NetLists, IsNet}
use Rattle.teg_net.specs.Limits.{most_transitions, most_place_tokens, greatest_firing_number}
use Rattle.teg_model.specs.Datings.{IsLeastDating, listed_releases, system_of}
use Rattle.date_rows.specs.declared.order.OrderedPlace.{OrderedPlace}
use Rattle.date_rows.specs.PlaceOrder.{OrdersPlaces}
use Rattle.date_rows.specs.Passes.{KeptRows, AreLeastRowsBack, IsRowOf}
use Rattle.date_rows.specs.LastColumns.{WindowCells, window_rows}

-- how many transitions there are, how many rows are kept, how many were given, and the dates of the last of these
pub record LastDates : Type 0 where
  pub width : ℕ
  pub reach : ℕ
  pub number : ℕ
  pub dates : List Date

-- how many rows are there
abbrev pub rows_kept : LastDates → ℕ
rows_kept last = min last.number last.reach

-- the date of transition t so many rows back, 1 being the last
abbrev pub date_back : LastDates → ℕ → ℕ → Date
date_back last t b = slice_index_or last.dates (length last.dates - b * last.width + t) Early

-- the last dates as rows that are kept
abbrev pub last_rows : LastDates → KeptRows
last_rows last = record { width = last.width; reach = last.reach; number = last.number; kept = rows_kept last; back = date_back last }

-- there is a date for each transition and row, within the limits
pub record AreLastDates (last : LastDates) : Type 0 where
  pub width_in : last.width ≤ most_transitions
  pub reach_in : last.reach ≤ most_place_tokens
  pub number_in : last.number ≤ greatest_firing_number
  pub full : length last.dates ≡ rows_kept last * last.width

-- the places in this order and the rows that are kept stand for the net, which keeps its rules: the next row of its least dating can be
-- made of them; the reach is the greatest number of tokens of a place, and at least 1
pub record CanMakeNextRow (net : NetLists) (turns : List OrderedPlace) (rows : KeptRows) : Type 0 where
  pub rules : IsNet net
  pub order : OrdersPlaces net turns
  pub width : rows.width ≡ length net.transitions
  pub one : 1 ≤ rows.reach
  pub reach : All (λ p. p.tokens ≤ rows.reach) net.places
  pub few : (n : ℕ) → 1 ≤ n → All (λ p. p.tokens ≤ n) net.places → rows.reach ≤ n
  pub there : min rows.number rows.reach ≤ rows.kept
  pub least : AreLeastRowsBack net (system_of net (listed_releases net)) (rows.number + 1) rows

-- the places in the order of their turns, and the last rows
pub record StreamLists : Type 0 where
  pub order : List OrderedPlace
  pub last : LastDates

-- how many rows the stream has given
abbrev pub rows_given : StreamLists → ℕ
rows_given stream = stream.last.number

-- the stream stands for the net
abbrev pub IsStreamOf : NetLists → StreamLists → Type 0
IsStreamOf net stream = CanMakeNextRow net stream.order (last_rows stream.last)

-- the lists of first rows: an order of the places, and a window of the last rows
pub record FirstLists : Type 0 where
  pub order : List OrderedPlace
  pub window : WindowCells

-- how many of them were given
abbrev pub first_rows_given : FirstLists → ℕ
first_rows_given rows = rows.window.number

-- the first rows stand for the net
abbrev pub AreFirstRowsOf : NetLists → FirstLists → Type 0
AreFirstRowsOf net rows = CanMakeNextRow net rows.order (window_rows rows.window)

-- the net has a least dating
abbrev pub HasLeast : NetLists → Type 0
HasLeast net = (x : ℕ → ℕ → Date) × IsLeastDating net x

-- the dates of number k of each transition by the least dating of the net
pub record IsLeastRow (net : NetLists) (k : ℕ) (row : List Date) : Type 0 where
  pub exists : HasLeast net
  pub same : (x : ℕ → ℕ → Date) → IsLeastDating net x → IsRowOf net x k row
