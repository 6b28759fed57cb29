-- Working definitions of the passes of one number, going back: how far the latest dates are settled.
use Rattle.std.specs.Prelude.{ℕ, ◌+◌, ◌*◌, ◌<◌, ◌≤◌, ◌≡◌, List, length, All, slice_index_or, Option, Some, None, nat_lt, if◌then◌else◌}
use Rattle.date_rows.specs.dioid.declared.dates.Date.{Date}
use Rattle.date_rows.specs.dioid.Dates.{IsAtMostDate, delayed}
use Rattle.teg_net.specs.declared.entries.PlaceId.{PlaceId}
use Rattle.teg_net.specs.Nets.{NetLists}
use Rattle.teg_net.specs.Circuits.{place_at}
use Rattle.date_rows.specs.teg_model.Datings.{IsFeasibleUnder}
use Rattle.date_rows.specs.DateTables.{most_numbers}
use Rattle.teg_due.specs.declared.rows.DueRow.{DueRow}
use Rattle.due_laws.specs.MeetingDueDates.{KeepsDues, inputs_at_zero}
use Rattle.teg_jit.specs.declared.answers.Onward.{Onward}
use Rattle.teg_jit.specs.declared.answers.Onward.TheVariants.{Due, By}
use Rattle.teg_jit.specs.declared.answers.LatestDate.{LatestDate}
use Rattle.teg_jit.specs.declared.answers.LatestDate.TheVariants.{Free, At}
use Rattle.teg_jit.specs.declared.order.Depth.{Depth}
use Rattle.teg_jit.specs.DueDates.{NameFirings, IsGreatestNumber}
use Rattle.teg_jit.specs.LatestCells.{most_cell_date}
use Rattle.teg_jit.specs.Plans.{latest_in, dates_of_latest, HaveOnward}

-- each row names a firing of the net, and no two the same, the greatest number is this one, and the dates fit into cells
pub record AreListedUpTo (net : NetLists) (rows : List DueRow) (last : ℕ) : Type 0 where
  pub due : NameFirings net rows
  pub greatest : IsGreatestNumber rows last
  pub few : last ≤ most_numbers
  pub fits : All (λ r. r.date < most_cell_date) rows

-- these are dates of numbers 1 to last, of which this number is one
pub record HasNumber (net : NetLists) (last number : ℕ) (dates : List LatestDate) : Type 0 where
  pub one : 1 ≤ number
  pub within : number ≤ last
  pub few : last ≤ most_numbers
  pub full : length dates ≡ last * length net.transitions

-- the date with its step, where it comes before what is there
abbrev pub lowered : LatestDate → ℕ → Onward → LatestDate
lowered Free d onward = At d onward
lowered (At b o) d onward = if nat_lt d b then At d onward else At b o

-- the date that is there, if any
abbrev pub date_there : LatestDate → Option ℕ
date_there Free = None
date_there (At d onward) = Some d

-- a date is there only where the firing is due
abbrev pub IsFreeOrDue : LatestDate → Type 0
IsFreeOrDue date = (d : ℕ) (onward : Onward) → date ≡ At d onward → onward ≡ Due

-- what holds of the dates of numbers 1 to last while those of number k are settled: those of greater numbers are, so are the
-- next steps of the first transitions and the first places of the order, and only places before the one at `by` are steps
pub record ArePassed (net : NetLists) (due : ℕ → ℕ → Option ℕ) (order : List Depth) (last k next first by : ℕ) (dates : List LatestDate) : Type 0 where
  pub full : length dates ≡ last * length net.transitions
  pub dues : KeepsDues net due (dates_of_latest (length net.transitions) dates)
  pub above : (x : ℕ → ℕ → Date) → IsFeasibleUnder net inputs_at_zero x → KeepsDues net due x → (t s : ℕ) → t < length net.transitions
      → 1 ≤ s → IsAtMostDate (x t s) (dates_of_latest (length net.transitions) dates t s)
  pub places : (p : PlaceId) (s : ℕ) → p.index < length net.places → k < s
      → IsAtMostDate (delayed (place_at net p).hold (dates_of_latest (length net.transitions) dates (place_at net p).from.index s))
      (dates_of_latest (length net.transitions) dates (place_at net p).to.index (s + (place_at net p).tokens))
  pub climbs : (t s : ℕ) → t < length net.transitions → k < s → IsAtMostDate (dates_of_latest (length net.transitions) dates t s) (dates_of_latest (length net.transitions) dates t (s + 1))
  pub nexts : (t : ℕ) → t < length net.transitions → t < next → IsAtMostDate (dates_of_latest (length net.transitions) dates t k) (dates_of_latest (length net.transitions) dates t (k + 1))
  pub done : (c : ℕ) (d : Depth) → c < length order → c < first
      → IsAtMostDate (delayed (place_at net (slice_index_or order c d).place).hold (dates_of_latest (length net.transitions) dates (place_at net (slice_index_or order c d).place).from.index k))
      (dates_of_latest (length net.transitions) dates (place_at net (slice_index_or order c d).place).to.index (k + (place_at net (slice_index_or order c d).place).tokens))
  pub onward : HaveOnward net due dates
  pub steps : (t d : ℕ) (p : PlaceId) → t < length net.transitions → 1 ≤ k → latest_in (length net.transitions) dates t k ≡ At d (By p)
      → (c : ℕ) × (c < by) × (c < length order) × ((o : Depth) → (slice_index_or order c o).place ≡ p)
  pub untouched : (t s : ℕ) → t < length net.transitions → 1 ≤ s → s < k → IsFreeOrDue (latest_in (length net.transitions) dates t s)

-- what holds of the dates of numbers 1 to last while those of number k are settled and no place of the order is passed
abbrev pub AreNext : NetLists → (ℕ → ℕ → Option ℕ) → ℕ → ℕ → ℕ → List LatestDate → Type 0
AreNext net due last k next dates = (order : List Depth) → ArePassed net due order last k next 0 0 dates

-- the dates of the numbers above k are settled
abbrev pub ArePassedAbove : NetLists → (ℕ → ℕ → Option ℕ) → ℕ → ℕ → List LatestDate → Type 0
ArePassedAbove net due last k dates = AreNext net due last k 0 dates

-- a feasible dating keeps the due dates
abbrev pub HaveRoom : NetLists → (ℕ → ℕ → Option ℕ) → Type 0
HaveRoom net due = (x : ℕ → ℕ → Date) × IsFeasibleUnder net inputs_at_zero x × KeepsDues net due x
