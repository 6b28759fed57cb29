-- Working definitions of a settled form that is copied from rows of dates.
use Rattle.std.specs.Prelude.{ℕ, ◌-◌, ◌<◌, ◌≤◌, ◌≡◌, List, [], length, map, slice_index_or}
use Rattle.std.specs.Global.{Vec}
use Rattle.dioid.specs.declared.dates.Date.{Date}
use Rattle.dioid.specs.declared.dates.Date.TheVariants.{Early}
use Rattle.date_rows.specs.DateTables.{TableDates, date_at}

-- the dates of transition t up to number `count`
pub record AreShownDates (rows : TableDates) (t count : ℕ) (dates : List Date) : Type 0 where
  pub long : length dates ≡ count
  pub same : (k : ℕ) → 1 ≤ k → k ≤ count → slice_index_or dates (k - 1) Early ≡ date_at rows t k

-- the table has the dates of each transition up to number `count`
pub record IsTableTo (rows : TableDates) (count : ℕ) (table : List (Vec Date)) : Type 0 where
  pub width : length table ≡ rows.width
  pub shown : (t : ℕ) → t < rows.width → AreShownDates rows t count (slice_index_or (map (λ r. r.items) table) t [])
