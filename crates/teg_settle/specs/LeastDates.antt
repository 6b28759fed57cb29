-- One date of a net's least dating.
use Rattle.std.specs.Prelude.{ℕ, ◌<◌, ◌≡◌}
use Rattle.dioid.specs.declared.dates.Date.{Date}
use Rattle.teg_net.specs.Nets.{NetLists}
use Rattle.periodic_laws.specs.teg_model.Datings.{IsLeastDating, listed_releases, system_of}
use Rattle.date_rows.specs.DateTables.{TableDates}
use Rattle.date_rows.specs.KeptRows.{AreLeastRows}
use Rattle.teg_settle.specs.declared.one_date.DateOrRows.{DateOrRows}
use Rattle.teg_settle.specs.declared.one_date.DateOrRows.TheVariants.{Known, Made}
use Rattle.teg_settle.specs.Steps.{ShowsNoForm}

-- the net has a least dating, and this is the date of firing k of transition t by it
abbrev pub IsLeastDate : NetLists → ℕ → ℕ → Date → Type 0
IsLeastDate net t k date = (x : ℕ → ℕ → Date) × IsLeastDating net x × (date ≡ x t k)

-- so many rows of the least dating, which end before number k and show no settled form
pub record AreRowsBelow (net : NetLists) (k count : ℕ) (rows : TableDates) : Type 0 where
  pub least : AreLeastRows net (system_of net (listed_releases net)) rows
  pub all : rows.count ≡ count
  pub before : rows.count < k
  pub none : ShowsNoForm net rows.count

-- the date of firing k of transition t, or so many rows that do not tell it
abbrev pub IsDateOrRows : NetLists → ℕ → ℕ → ℕ → DateOrRows → Type 0
IsDateOrRows net t k count (Known date) = IsLeastDate net t k date
IsDateOrRows net t k count (Made rows) = AreRowsBelow net k count rows
