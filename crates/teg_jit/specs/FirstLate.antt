-- Working definitions of how the first late row is found, and of where a late walk begins.
use Rattle.std.specs.Prelude.{ℕ, pos, ◌<◌, ◌≤◌, ◌≡◌, List, length, slice_index_or}
use Rattle.date_rows.specs.dioid.declared.dates.Date.{Date}
use Rattle.date_rows.specs.dioid.declared.dates.Date.TheVariants.{At}
use Rattle.teg_net.specs.Nets.{NetLists}
use Rattle.date_rows.specs.dioid.Dates.{IsAtMostDate}
use Rattle.teg_net.specs.Circuits.{place_at}
use Rattle.teg_net.specs.ReadyDates.{ready_date, start_date}
use Rattle.date_rows.specs.teg_model.Datings.{IsLeastUnder}
use Rattle.due_laws.specs.MeetingDueDates.{inputs_at_zero}
use Rattle.teg_due.specs.declared.rows.DueRow.{DueRow}
use Rattle.teg_jit.specs.LatestCells.{most_cell_date}
use Rattle.teg_jit.specs.Plans.{PlanDates, dates_of_plan}
use Rattle.teg_jit.specs.LateRefusals.{KeepsRow}

-- the latest date of this firing of the plan
pub record IsDateAt (plan : PlanDates) (t k date : ℕ) : Type 0 where
  pub in_range : t < plan.width
  pub from_one : 1 ≤ k
  pub to_last : k ≤ plan.numbers
  pub is : dates_of_plan plan t k ≡ At (pos date)

-- the latest date of this firing of the plan is its start
abbrev pub IsAtStart : NetLists → PlanDates → ℕ → ℕ → Type 0
IsAtStart net plan t k = IsDateAt plan t k (start_date net t k)

-- the latest date of some firing is its start
abbrev pub HasDateAtStart : NetLists → PlanDates → Type 0
HasDateAtStart net plan = (t k : ℕ) × IsAtStart net plan t k

-- the latest date of some firing is 0
abbrev pub HasDateZero : PlanDates → Type 0
HasDateZero plan = (t k : ℕ) × IsDateAt plan t k 0

-- firing k takes an initial token of the place, and its latest date is the token's ready date
pub record IsReadyFrom (net : NetLists) (plan : PlanDates) (q k : ℕ) : Type 0 where
  pub place_in : q < length net.places
  pub takes : k ≤ (place_at net (record { index = q })).tokens
  pub date : IsDateAt plan (place_at net (record { index = q })).to.index k (ready_date (place_at net (record { index = q })) k)

-- firing k takes an initial token of some place into transition t, and its latest date is the token's ready date
abbrev pub IsWhenReady : NetLists → PlanDates → ℕ → ℕ → Type 0
IsWhenReady net plan t k = (q : ℕ) × IsReadyFrom net plan q k × ((place_at net (record { index = q })).to.index ≡ t)

-- some firing takes an initial token of some place, and its latest date is the token's ready date
abbrev pub HasDateWhenReady : NetLists → PlanDates → Type 0
HasDateWhenReady net plan = (q k : ℕ) × IsReadyFrom net plan q k

-- no latest date is before the start of its firing
abbrev pub StartsAreKept : NetLists → PlanDates → Type 0
StartsAreKept net plan = (t k : ℕ) → t < length net.transitions → 1 ≤ k → IsAtMostDate (At (pos (start_date net t k))) (dates_of_plan plan t k)

-- the row's date is that of its firing by the least dating with all inputs at 0
abbrev pub HasLeastDate : NetLists → DueRow → Type 0
HasLeastDate net r = (x : ℕ → ℕ → Date) × IsLeastUnder net inputs_at_zero x × (x r.transition.index r.number ≡ At (pos r.date))

-- the rows before i are kept, and that at i is not: the date there, which eight bytes hold
pub record IsFirstExceeded (y : ℕ → ℕ → Date) (rows : List DueRow) (i least : ℕ) : Type 0 where
  pub within : i < length rows
  pub kept : (j : ℕ) (q : DueRow) → j < length rows → j < i → KeepsRow y (slice_index_or rows j q)
  pub is_least : (d : DueRow) → y (slice_index_or rows i d).transition.index (slice_index_or rows i d).number ≡ At (pos least)
  pub fits : least < most_cell_date
  pub late : (d : DueRow) → (slice_index_or rows i d).date < least
