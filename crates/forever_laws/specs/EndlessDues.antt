-- What holds of endless due dates: late numbers, their search and their bound, latest inputs, and series of walk times and due dates.
use Rattle.std.specs.Prelude.{ℕ, pos, ◌+◌, ◌-◌, ◌*◌, ◌^◌, ◌<◌, ◌≤◌, ◌≡◌, ◌≢◌, ◌⊎◌, ◌↔◌, List, Option, length, All}
use Rattle.walk_times.specs.dioid.declared.dates.Date.{Date}
use Rattle.walk_times.specs.dioid.declared.dates.Date.TheVariants.{At, Never}
use Rattle.walk_times.specs.series_laws.SeriesForms.{Form, value_at}
use Rattle.walk_times.specs.series_form.NumberBounds.{IsSeries}
use Rattle.walk_times.specs.series_ops.declared.gains.Gain.{Gain}
use Rattle.teg_net.specs.Nets.{NetLists, IsNet, HasEndsInRange, IsInput, without_inputs}
use Rattle.teg_net.specs.Circuits.{IsLive}
use Rattle.walk_times.specs.teg_model.Datings.{IsLeastUnder, IsLeastDating}
use Rattle.walk_times.specs.settled_laws.SettledForms.{SettledForm, StandsFor, row_of, step_of_form, settled_length}
use Rattle.walk_times.specs.Transfers.{IsGreatestWalkTime, IsTransferOf}
use Rattle.due_laws.specs.MeetingDueDates.{InputsMeet, AreLatestInputs, inputs_at_zero}
use Rattle.due_laws.specs.LatestDates.{IsLatestDate}
use Rattle.due_laws.specs.LatestInputs.{LeadsToNoDue}
use Rattle.endless_due.specs.declared.row.EndlessRow.{EndlessRow}
use Rattle.teg_net.specs.Inputs.{moved_by}
use Rattle.endless_due.specs.EndlessRows.{due_on, row_due, IsEndlessRow, IsEndlessOf}
use Rattle.forever_laws.specs.Late.{IsLateAt, NoneLateTo, NoneLate, IsLeastLate, IsFirstLateRow}
use Rattle.forever_laws.specs.LateSearches.{IsCommonPeriodOf, turns_to, IsSoonest}
use Rattle.forever_laws.specs.SeriesColumns.{due_date_at, AreSeriesColumns, residual_over, IsWalkSeries, IsDueSeries, IsSeriesList, listed_dates}

-- ---- due dates

-- past its list an endless row makes each firing due by its gap later than that of `every` firings before
abbrev pub RowsGoOn : Type 0
RowsGoOn = (net : NetLists) (r : EndlessRow) → IsEndlessRow net r → (k : ℕ) → length r.dates < k → row_due r k ≡ moved_by r.gap (row_due r (k - r.every))

-- ---- late numbers

-- the least dating of a net is that of the net without its input lists, where all inputs are at 0
abbrev pub ZeroInputsAreNoLists : Type 0
ZeroInputsAreNoLists = (net : NetLists) (x : ℕ → ℕ → Date) → IsLeastDating (without_inputs net) x ↔ IsLeastUnder net inputs_at_zero x

-- inputs at 0 meet the due dates exactly where no number of any row is late
abbrev pub ZeroMeetsWhereNoneLate : Type 0
ZeroMeetsWhereNoneLate = (net : NetLists) → HasEndsInRange net → IsLive net → (rows : List EndlessRow) → IsEndlessOf net rows
    → (x : ℕ → ℕ → Date) → IsLeastUnder net inputs_at_zero x → InputsMeet net (due_on rows) inputs_at_zero ↔ All (NoneLate x) rows

-- where nothing is late up to a turn past the number from which the dates of the transition and its due dates repeat, nothing is where the
-- due dates rise no less in a turn, and otherwise the least late number is that which is late after the fewest turns
abbrev pub TurnsTellLate : Type 0
TurnsTellLate = (net : NetLists) → HasEndsInRange net → IsLive net → (x : ℕ → ℕ → Date) → IsLeastUnder net inputs_at_zero x
    → (r : EndlessRow) → IsEndlessRow net r
    → (past turn rise fall : ℕ) → IsCommonPeriodOf x r past turn rise fall → NoneLateTo x r (past + turn)
    → (rise ≤ fall → NoneLate x r)
    × ((gain base due date : ℕ) → 0 < gain → rise ≡ fall + gain → IsSoonest x r past (past + turn) gain base due date
    → IsLeastLate x r (base + turns_to due date gain * turn) (due + turns_to due date gain * fall) (date + turns_to due date gain * rise))

-- a row with a late number has a least one
abbrev pub LateNumbersHaveLeast : Type 0
LateNumbersHaveLeast = (net : NetLists) → HasEndsInRange net → IsLive net → (x : ℕ → ℕ → Date) → IsLeastUnder net inputs_at_zero x
    → (r : EndlessRow) → IsEndlessRow net r → (k due least : ℕ) → IsLateAt x r k due least
    → (j d z : ℕ) × IsLeastLate x r j d z

-- the step of a transition is a number from 0 on
abbrev pub StepsAreFromZero : Type 0
StepsAreFromZero = (net : NetLists) → HasEndsInRange net → IsLive net → (x : ℕ → ℕ → Date) → IsLeastUnder net inputs_at_zero x
    → (f : SettledForm) → StandsFor (length net.transitions) f x → (t : ℕ) → t < length net.transitions → (step : ℕ) × (step_of_form f t ≡ pos step)

-- a least late number is below 10^23
abbrev pub late_number_bound : ℕ
late_number_bound = 10 ^ 23

-- the dates of a least late number are below 10^35
abbrev pub late_date_bound : ℕ
late_date_bound = 10 ^ 35

-- a least late number is below 10^23, and its dates are below 10^35
abbrev pub LateIsSoon : Type 0
LateIsSoon = (net : NetLists) → IsNet net → IsLive net → (x : ℕ → ℕ → Date) → IsLeastUnder net inputs_at_zero x
    → (r : EndlessRow) → IsEndlessRow net r → (k due least : ℕ) → IsLeastLate x r k due least
    → (k < late_number_bound) × (due < late_date_bound) × (least < late_date_bound)

-- inputs at 0 meet the due dates, or some row is the first that has a late number
abbrev pub EndlessMeetOrLate : Type 0
EndlessMeetOrLate = (net : NetLists) → HasEndsInRange net → IsLive net → (rows : List EndlessRow) → IsEndlessOf net rows → (x : ℕ → ℕ → Date) → IsLeastUnder net inputs_at_zero x
    → InputsMeet net (due_on rows) inputs_at_zero ⊎ ((r : EndlessRow) × (k : ℕ) × (due : ℕ) × (least : ℕ) × IsFirstLateRow x rows r k due least)

-- where a row has a late number, inputs at 0 do not meet the due dates
abbrev pub EndlessLateExcludesMeet : Type 0
EndlessLateExcludesMeet = (net : NetLists) → HasEndsInRange net → IsLive net → (rows : List EndlessRow) → IsEndlessOf net rows → (x : ℕ → ℕ → Date) → IsLeastUnder net inputs_at_zero x
    → (r : EndlessRow) (k due least : ℕ) → IsFirstLateRow x rows r k due least → InputsMeet net (due_on rows) inputs_at_zero → ⊥

-- ---- latest inputs

-- where inputs at 0 meet the due dates, the latest dates at the inputs are the latest inputs
abbrev pub LatestAtInputsAreLatest : Type 0
LatestAtInputsAreLatest = (net : NetLists) → HasEndsInRange net → IsLive net → (due : ℕ → ℕ → Option ℕ) → InputsMeet net due inputs_at_zero
    → (v : ℕ → ℕ → Date) → ((t k : ℕ) → IsInput net t → 1 ≤ k → IsLatestDate net due t k (v t k)) → AreLatestInputs net due v

-- the meet over the rows of the residuals of the dues by the walks has the latest dates at the transition
abbrev pub ResidualsAreLatestDates : Type 0
ResidualsAreLatestDates = (net : NetLists) → HasEndsInRange net → IsLive net → (rows : List EndlessRow) → IsEndlessOf net rows → 1 ≤ length rows
    → InputsMeet net (due_on rows) inputs_at_zero → (t : ℕ) → t < length net.transitions → (walks dues : ℕ → Gain) → AreSeriesColumns net t rows walks dues
    → (k : ℕ) → IsLatestDate net (due_on rows) t (k + 1) (value_at (residual_over (length rows) walks dues).series k)

-- whether a walk leads to a due firing does not depend on the number
abbrev pub FreeAtEachNumber : Type 0
FreeAtEachNumber = (net : NetLists) (rows : List EndlessRow) → IsEndlessOf net rows
    → (t j k : ℕ) → 1 ≤ j → 1 ≤ k → LeadsToNoDue net (due_on rows) t j → LeadsToNoDue net (due_on rows) t k

-- the values of that meet are all never, where no walk leads from any firing of the transition to a due one, or they are all numbers
-- from 0 on; the first value tells which
abbrev pub ResidualsAreFreeOrNumbers : Type 0
ResidualsAreFreeOrNumbers = (net : NetLists) → HasEndsInRange net → IsLive net → (rows : List EndlessRow) → IsEndlessOf net rows → 1 ≤ length rows
    → InputsMeet net (due_on rows) inputs_at_zero → (t : ℕ) → t < length net.transitions → (walks dues : ℕ → Gain) → AreSeriesColumns net t rows walks dues
    → (let s : ℕ → Date = value_at (residual_over (length rows) walks dues).series in
    (s 0 ≡ Never → ((k : ℕ) → s k ≡ Never) × ((k : ℕ) → 1 ≤ k → LeadsToNoDue net (due_on rows) t k))
    × (s 0 ≢ Never → (k : ℕ) → (m : ℕ) × (s k ≡ At (pos m))))

-- a latest date is a number from 0 on, or never
abbrev pub LatestDatesFromZero : Type 0
LatestDatesFromZero = (net : NetLists) → HasEndsInRange net → (due : ℕ → ℕ → Option ℕ) → InputsMeet net due inputs_at_zero
    → (t k : ℕ) (d : Date) → t < length net.transitions → 1 ≤ k → IsLatestDate net due t k d → d ≢ Never → (m : ℕ) × (d ≡ At (pos m))

-- ---- series

-- a row of the shortest form of walk times is a list of them
abbrev pub TransfersAreSeries : Type 0
TransfersAreSeries = (net : NetLists) (input : ℕ) (f : SettledForm) → IsTransferOf net input f → (t : ℕ) → t < length net.transitions
    → IsSeriesList (row_of f t) f.period (step_of_form f t) (λ k d. IsGreatestWalkTime net input t (k + 1) d)

-- the listed dates of a due row are a list of its due dates
abbrev pub DuesAreSeries : Type 0
DuesAreSeries = (net : NetLists) (r : EndlessRow) → IsEndlessRow net r
    → IsSeriesList (listed_dates r) r.every (pos r.gap) (λ k d. d ≡ due_date_at r k)

-- ---- series fit

-- the canonical form of due dates has at most 20,000 values, and numbers of a magnitude up to 10^18
abbrev pub DueSeriesFit : Type 0
DueSeriesFit = (net : NetLists) (r : EndlessRow) → IsEndlessRow net r → (d : Form) → IsDueSeries r d → IsSeries d

-- the canonical form of walk times in a live net has at most 20,000 values, and numbers of a magnitude up to 10^18, where their
-- settled form is of at most 20,000 numbers
abbrev pub WalkSeriesFit : Type 0
WalkSeriesFit = (net : NetLists) → IsNet net → IsLive net → (input : ℕ) → IsInput net input
    → (f : SettledForm) → IsTransferOf net input f → settled_length f ≤ 20000
    → (t : ℕ) → t < length net.transitions → (h : Form) → IsWalkSeries net input t h → IsSeries h
