-- The last dates of each transition, one transition after another.
use Rattle.std.specs.Prelude.{ℕ, ◌+◌, ◌-◌, ◌*◌, ◌<◌, ◌≤◌, ◌≡◌, ◌≢◌, List, length, min, replicate, slice_index}
use Rattle.dioid.specs.declared.dates.Date.{Date}
use Rattle.teg_net.specs.Limits.{most_transitions, greatest_firing_number}
use Rattle.date_rows.specs.Passes.{KeptRows}
use Rattle.date_rows.specs.DateCells.{date_of_cell}

-- the cells of a transition are at most so many
abbrev pub most_room : ℕ
most_room = 2000

-- how many transitions there are, how many rows are always kept, how many cells a transition has, where its next date stands, how many rows were given, and all cells
pub record WindowCells : Type 0 where
  pub width : ℕ
  pub reach : ℕ
  pub room : ℕ
  pub at : ℕ
  pub number : ℕ
  pub cells : List ℕ

-- the cell at this index of a transition
abbrev pub column_at : ℕ → List ℕ → ℕ → ℕ → ℕ
column_at room cells t i = slice_index cells (t * room + i)

-- the date of transition t so many rows back, 1 being the last
abbrev pub window_back : WindowCells → ℕ → ℕ → Date
window_back w t b = date_of_cell (column_at w.room w.cells t (w.at - b))

-- the rows of the window as rows that are kept
abbrev pub window_rows : WindowCells → KeptRows
window_rows w = record { width = w.width; reach = w.reach; number = w.number; kept = w.at; back = window_back w }

-- no rows
abbrev pub opened_window : ℕ → ℕ → WindowCells
opened_window width reach =
    let room : ℕ = reach + 64 in
    record { width = width; reach = reach; room = room; at = 0; number = 0; cells = replicate (width * room) 0 }

-- there is a cell for each transition and index, and the last `reach` rows are kept, or all
pub record AreLastColumns (w : WindowCells) : Type 0 where
  pub width_in : w.width ≤ most_transitions
  pub room_in : w.room ≤ most_room
  pub reach_in : w.reach < w.room
  pub at_in : w.at < w.room
  pub kept : min w.number w.reach ≤ w.at
  pub number_in : w.number ≤ greatest_firing_number
  pub full : length w.cells ≡ w.width * w.room

-- columns of so many cells have one at `at`, and more than are always kept
pub record HasRoomAt (reach room at : ℕ) : Type 0 where
  pub room_in : room ≤ most_room
  pub reach_in : reach < room
  pub at_in : at < room

-- the columns have the row's dates at `at`, and else what they had
pub record HasColumnSet (room at : ℕ) (old new row : List ℕ) : Type 0 where
  pub full : length new ≡ length old
  pub here : (t : ℕ) → t < length row → column_at room new t at ≡ slice_index row t
  pub other : (t i : ℕ) → t < length row → i < room → i ≢ at → column_at room new t i ≡ column_at room old t i

-- the first cells of each column are what its last were, so many
pub record AreMoved (width reach room : ℕ) (old new : List ℕ) : Type 0 where
  pub full : length new ≡ length old
  pub moved : (t i : ℕ) → t < width → i < reach → column_at room new t i ≡ column_at room old t (room - reach + i)

-- the columns ended before `at`, and end before `next` with the row's dates as their last; what is still there of the others stands before these as it did
pub record HaveRowAdded (reach room at : ℕ) (old new row : List ℕ) (next : ℕ) : Type 0 where
  pub full : length new ≡ length old
  pub within : next < room
  pub enough : min (at + 1) reach ≤ next
  pub few : next ≤ at + 1
  pub last : (t : ℕ) → t < length row → 1 ≤ next → column_at room new t (next - 1) ≡ slice_index row t
  pub before : (t b : ℕ) → t < length row → 1 ≤ b → b + 1 ≤ next → column_at room new t (next - (b + 1)) ≡ column_at room old t (at - b)
