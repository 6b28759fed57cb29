-- Some splits of a shift, as one value.
use Rattle.std.specs.Prelude.{◌≤◌, ◌<◌, ◌+◌, ◌-◌, ℕ, suc, List}
use Rattle.dioid.specs.declared.dates.Date.{Date}
use Rattle.series_ops.specs.declared.cells.SplitsAt.{SplitsAt}
use Rattle.series_ops.specs.ListFunctions.{value_listed}
use Rattle.series_ops.specs.Splits.{greatest_from, split_of}

-- both parts stand in lists of these lengths
pub record AreSplitsIn (at : SplitsAt) (size other : ℕ) : Type 0 where
  pub first : at.from + at.count ≤ size
  pub splits : at.count ≤ suc at.shift - at.from
  pub second : at.shift < other

-- the greatest sum of a date of l and a date of r
abbrev pub greatest_of : SplitsAt → List Date → List Date → Date
greatest_of at l r = greatest_from (split_of (value_listed l) (value_listed r) at.shift) at.from at.count
