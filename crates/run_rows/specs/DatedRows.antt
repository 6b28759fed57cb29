-- Rows whose dates stay within the bound of least dates.
use Rattle.std.specs.Prelude.{ℕ, ◌<◌, ◌≤◌}
use Rattle.std.proofs.Props.{props}
use Rattle.dioid.specs.declared.dates.Date.{Date}
use Rattle.dioid.specs.declared.dates.Date.TheVariants.{Early, At, Never}
use Rattle.teg_model.specs.DateBounds.{IsDateWithin, greatest_least_date}
use Rattle.date_rows.specs.DateTables.{TableDates, date_at}

-- each date of the rows is a number from 0 to the bound, or none
abbrev pub StayWithin : TableDates → Type 0
StayWithin rows = (t k : ℕ) → t < rows.width → 1 ≤ k → k ≤ rows.count → IsDateWithin greatest_least_date (date_at rows t k)

within_once : (n : ℕ) (d : Date) → IsProp (IsDateWithin n d)
within_once n Early = hlevel props
within_once n (At x) = hlevel props
within_once n Never = hlevel props

-- which has one proof at most
pub StayWithin-prop : (rows : TableDates) → IsProp (StayWithin rows)
StayWithin-prop rows = hlevel (props, within_once)
