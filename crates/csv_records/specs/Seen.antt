-- Tables of the numbers that were seen in columns.
use Rattle.std.specs.Prelude.{ℕ, Bool, false, ◌+◌, ◌*◌, ◌<◌, ◌≤◌, ◌≡◌, ◌&&◌, List, length, nat_le, slice_index_or}

-- the greatest number that is seen
abbrev pub greatest_seen_number : ℕ
greatest_seen_number = 10000

-- the most columns of a table
abbrev pub most_columns : ℕ
most_columns = 1000000

-- the cells of a table, and how many columns there are
pub record SeenNumbers : Type 0 where
  pub width : ℕ
  pub cells : List Bool

-- the cell of a column and a number
abbrev pub seen_cell : ℕ → ℕ → ℕ
seen_cell t n = t * (greatest_seen_number + 1) + n

-- the number was seen in the column; none past the greatest is
abbrev pub is_seen : SeenNumbers → ℕ → ℕ → Bool
is_seen seen t n = nat_le n greatest_seen_number && slice_index_or seen.cells (seen_cell t n) false

-- the table tells for each of its columns what this says
abbrev pub TellsSeen : SeenNumbers → (ℕ → ℕ → Bool) → Type 0
TellsSeen seen says = (t n : ℕ) → t < seen.width → is_seen seen t n ≡ says t n

-- a cell of each column and number
pub record IsSeenTable (seen : SeenNumbers) : Type 0 where
  pub narrow : seen.width ≤ most_columns
  pub long : length seen.cells ≡ seen.width * (greatest_seen_number + 1)
