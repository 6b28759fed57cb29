-- Working definitions of what rows of the least dating show of a period. The contract of `shown_form` cites `most_window`
-- and rests on `read_step`; no other of them stands below the contract of a public call.
use Rattle.std.specs.Prelude.{ℕ, ℤ, ◌+◌, ◌-◌, ◌^◌, ◌<◌, ◌≤◌, ◌≤ℤ◌, ◌≡◌, ◌⊎◌, List, length, All}
use Rattle.dioid.specs.declared.dates.Date.{Date}
use Rattle.dioid.specs.declared.dates.Date.TheVariants.{Early, Never}
use Rattle.dioid.specs.Dates.{move}
use Rattle.teg_net.specs.declared.entries.Place.{Place}
use Rattle.teg_net.specs.Limits.{greatest_firing_number}
use Rattle.teg_net.specs.Nets.{NetLists, IsNet}
use Rattle.teg_check.specs.Ranks.{IsRanking}
use Rattle.periodic_laws.specs.teg_model.Systems.{IsLeastIn}
use Rattle.periodic_laws.specs.teg_model.DateBounds.{IsDateWithin, greatest_least_date}
use Rattle.periodic_laws.specs.settled_laws.SettledForms.{SettledForm, RepeatsAfter, IsShortestForm}
use Rattle.periodic_laws.specs.settled_laws.DateDifferences.{between}
use Rattle.date_rows.specs.DateTables.{TableDates, HasDatesOf, date_at}
use Rattle.date_rows.specs.KeptRows.{IsRows, AreLeastRows}
use Rattle.teg_settle.specs.declared.releases.Releases.{Releases}
use Rattle.teg_settle.specs.declared.releases.Repetition.{Repetition}
use Rattle.teg_settle.specs.InitialReleases.{OnlyInputsWait, release_by, system_for}
use Rattle.list_spans.specs.Spans.{AreSpans}

-- rows that a window may have, and a period, at most
abbrev pub most_window : ℕ
most_window = 100000000000000

-- by what the dates of transition t move in the last period of the rows
abbrev pub read_step : TableDates → ℕ → ℕ → ℤ
read_step rows period t = between (date_at rows t (rows.count - period)) (date_at rows t rows.count)

-- the rows have the net's width and room for the period, and their dates leave room for a difference
pub record AreComparedRows (net : NetLists) (rows : TableDates) (period : ℕ) : Type 0 where
  pub width : rows.width ≡ length net.transitions
  pub small : (t k : ℕ) → t < rows.width → 1 ≤ k → k ≤ rows.count → IsDateWithin (2 ^ 126) (date_at rows t k)
  pub some : 1 ≤ period
  pub fits : period < rows.count
  pub few : rows.count ≤ most_window

-- the step does not fall along the place, or it leads to never or from early
abbrev pub IsRisingPlace : TableDates → ℕ → Place → Type 0
IsRisingPlace rows period p =
    (date_at rows p.to.index rows.count ≡ Never)
    ⊎ ((date_at rows p.from.index rows.count ≡ Early) ⊎ (read_step rows period p.from.index ≤ℤ read_step rows period p.to.index))

-- a period after number k each date has moved by its step
abbrev pub IsMovedAt : TableDates → ℕ → ℕ → Type 0
IsMovedAt rows period k = (t : ℕ) → t < rows.width → date_at rows t (k + period) ≡ move (read_step rows period t) (date_at rows t k)

-- a period after each number past `after` each date has moved by its step, as far as the rows go
abbrev pub IsMovedPast : TableDates → ℕ → ℕ → Type 0
IsMovedPast rows period after = (k : ℕ) → after < k → k + period ≤ rows.count → IsMovedAt rows period k

-- past `after` the dates u go on by the step in each period
abbrev pub GoesOnBy : (ℕ → Date) → ℕ → ℕ → ℤ → Type 0
GoesOnBy u after period step = (k : ℕ) → after < k → u (k + period) ≡ move step (u k)

-- past `after` the releases of each transition go on by its step in each period
abbrev pub AreReleasedAlike : NetLists → Releases → TableDates → ℕ → ℕ → Type 0
AreReleasedAlike net r rows period after =
    (t : ℕ) → t < length net.transitions → GoesOnBy (release_by r.waits.items net t) after period (read_step rows period t)

-- a live net, releases of its inputs with from where on they go on evenly, and a number that no place's tokens exceed
pub record IsReady (net : NetLists) (r : Releases) (most : ℕ) : Type 0 where
  pub is_net : IsNet net
  pub ranks : List ℕ
  pub ranking : IsRanking net ranks
  pub waits : OnlyInputsWait net r.waits.items
  pub spans : AreSpans net r.spans.items
  pub some : 1 ≤ most
  pub tokens : All (λ p. p.tokens ≤ most) net.places

-- the rows are those of the least dating
pub record AreRowsOf (net : NetLists) (r : Releases) (rows : TableDates) : Type 0 where
  pub limits : IsRows rows
  pub least : AreLeastRows net (system_for r net) rows
  pub few : rows.count ≤ most_window

-- rows of the least dating that are enough for a form of this period to be seen
pub record IsTrial (net : NetLists) (r : Releases) (rows : TableDates) (most period : ℕ) : Type 0 where
  pub ready : IsReady net r most
  pub made : AreRowsOf net r rows
  pub window : AreComparedRows net rows period
  pub fits : most + period + period ≤ rows.count

-- no form of this period begins early enough to be seen in so many rows
abbrev pub IsRefuted : NetLists → Releases → ℕ → ℕ → ℕ → Type 0
IsRefuted net r most count period =
    (x : ℕ → ℕ → Date) → IsLeastIn (system_for r net) x → (after : ℕ) (step : ℕ → ℤ) → RepeatsAfter (length net.transitions) x after period step
    → after + most + period + period ≤ count → ⊥

-- past `after` the least dates go on by the steps of the rows, and not from one number earlier on
pub record IsSeenFrom (net : NetLists) (r : Releases) (rows : TableDates) (most period after : ℕ) : Type 0 where
  pub fits : after + most + period + period ≤ rows.count
  pub repeats : (x : ℕ → ℕ → Date) → IsLeastIn (system_for r net) x → RepeatsAfter (length net.transitions) x after period (read_step rows period)
  pub first : (x : ℕ → ℕ → Date) → IsLeastIn (system_for r net) x → 1 ≤ after
      → ((t : ℕ) → t < length net.transitions → x t (after + period) ≡ move (read_step rows period t) (x t after)) → ⊥

-- past the number of the repetition, and in its period, the least dates go on by the steps of the rows; no less period does, and
-- no less number
pub record IsSeen (net : NetLists) (r : Releases) (rows : TableDates) (f : Repetition) : Type 0 where
  pub fits : f.after + f.period + f.period ≤ rows.count
  pub repeats : (x : ℕ → ℕ → Date) → IsLeastIn (system_for r net) x → RepeatsAfter (length net.transitions) x f.after f.period (read_step rows f.period)
  pub least_period : (x : ℕ → ℕ → Date) → IsLeastIn (system_for r net) x → (k p : ℕ) (s : ℕ → ℤ) → RepeatsAfter (length net.transitions) x k p s → f.period ≤ p
  pub least_after : (x : ℕ → ℕ → Date) → IsLeastIn (system_for r net) x → (k p : ℕ) (s : ℕ → ℤ) → RepeatsAfter (length net.transitions) x k p s → f.after ≤ k

-- the rows have the dates of x, which go on past them by their steps, within the bound of least dates, and room for two periods
pub record IsToldBy (net : NetLists) (rows : TableDates) (f : Repetition) (x : ℕ → ℕ → Date) : Type 0 where
  pub window : AreComparedRows net rows f.period
  pub fits : f.after + f.period + f.period ≤ rows.count
  pub dates : HasDatesOf net x rows
  pub repeats : RepeatsAfter (length net.transitions) x f.after f.period (read_step rows f.period)
  pub within : (t k : ℕ) → t < length net.transitions → 1 ≤ k → k ≤ greatest_firing_number → IsDateWithin greatest_least_date (x t k)

-- the shortest form of the least dating
abbrev pub IsLeastForm : NetLists → Releases → SettledForm → Type 0
IsLeastForm net r f = (x : ℕ → ℕ → Date) × IsLeastIn (system_for r net) x × IsShortestForm (length net.transitions) f x

-- each number past which the dates go on, and the period in which they do, exceed this together
abbrev pub RepeatsPast : ℕ → (ℕ → ℕ → Date) → ℕ → Type 0
RepeatsPast count x limit = (after period : ℕ) (step : ℕ → ℤ) → RepeatsAfter count x after period step → limit < after + period

-- each number past which the least dating goes on, and the period in which it does, exceed this together
abbrev pub LeastSettlesPast : NetLists → Releases → ℕ → Type 0
LeastSettlesPast net r limit = (x : ℕ → ℕ → Date) × IsLeastIn (system_for r net) x × RepeatsPast (length net.transitions) x limit
