-- Working definitions of what the search for a late firing goes by.
use Rattle.std.specs.Prelude.{ℕ, Some, pos, ◌+◌, ◌-◌, ◌*◌, ◌/◌, ◌%◌, ◌<◌, ◌≤◌, ◌≡◌, length}
use Rattle.std.specs.Int.{◌∣◌}
use Rattle.dioid.specs.declared.dates.Date.{Date}
use Rattle.dioid.specs.declared.dates.Date.TheVariants.{At}
use Rattle.dioid.specs.Dates.{move}
use Rattle.teg_net.specs.Circuits.{IsLive}
use Rattle.teg_net.specs.Limits.{greatest_firing_number, most_rows}
use Rattle.teg_net.specs.Nets.{NetLists, IsNet}
use Rattle.forever_laws.specs.teg_model.DateBounds.{greatest_least_date}
use Rattle.forever_laws.specs.teg_model.Datings.{IsLeastUnder}
use Rattle.forever_laws.specs.settled_laws.SettledForms.{SettledForm, StandsFor, settled_date, step_of_form}
use Rattle.forever_laws.specs.due_laws.MeetingDueDates.{inputs_at_zero}
use Rattle.endless_due.specs.declared.row.EndlessRow.{EndlessRow}
use Rattle.endless_due.specs.EndlessRows.{IsEndlessRow, most_endless_dates, row_due}
use Rattle.forever_laws.specs.Late.{IsLateAt, IsLeastLate, NoneLate, NoneLateTo}
use Rattle.forever_laws.specs.LateSearches.{IsCommonPeriodOf}
use Rattle.forever_laws.specs.EndlessDues.{late_date_bound, late_number_bound}
use Rattle.teg_forever.specs.declared.late.Soonest.{Soonest}
use Rattle.teg_forever.specs.declared.leads.Class.{Class}
use Rattle.teg_forever.specs.declared.settled_row.Cycle.{Cycle}
use Rattle.teg_forever.specs.declared.late.CommonPeriod.{CommonPeriod}

-- the form stands for the least dating of the net with all inputs at 0
pub record IsZeroForm (net : NetLists) (f : SettledForm) : Type 0 where
  pub dating : ℕ → ℕ → Date
  pub least : IsLeastUnder net inputs_at_zero dating
  pub stands : StandsFor (length net.transitions) f dating

-- the row keeps the rules of some net
abbrev pub IsGoingRow : EndlessRow → Type 0
IsGoingRow r = (net : NetLists) × IsEndlessRow net r

-- the dates of the transition are numbers from 0 on, and so is its step, which is not great
pub record IsClimbing (f : SettledForm) (t : ℕ) : Type 0 where
  pub in_range : t < length f.rows
  pub numbers : (k : ℕ) → 1 ≤ k → (m : ℕ) × (settled_date f t k ≡ At (pos m))
  pub step : ℕ
  pub step_is : step_of_form f t ≡ pos step
  pub step_low : step ≤ greatest_least_date

-- past the settling number the dates of the transition go on by its step in a period
pub record GoesOnBySteps (f : SettledForm) (t : ℕ) : Type 0 where
  pub again : (k : ℕ) → f.after < k → settled_date f t (k + f.period) ≡ move (step_of_form f t) (settled_date f t k)

-- past the settling number the dates of the transition rise by so much in so many firings
abbrev pub RisesIn : SettledForm → ℕ → ℕ → ℕ → Type 0
RisesIn f t firings rise = (k : ℕ) → f.after < k → settled_date f t (k + firings) ≡ move (pos rise) (settled_date f t k)

-- the form stands for the least dating of a live net with all inputs at 0, and the row is one of the net
pub record IsSettledRow (f : SettledForm) (r : EndlessRow) : Type 0 where
  pub net : NetLists
  pub rules : IsNet net
  pub is_live : IsLive net
  pub form : IsZeroForm net f
  pub row : IsEndlessRow net r
  pub climbing : IsClimbing f r.transition.index
  pub steps : GoesOnBySteps f r.transition.index

-- a settled form, and a row beside it
pub record RowAtZero : Type 0 where
  pub settled : SettledForm
  pub row : EndlessRow

-- with these parts
abbrev pub row_at_zero : SettledForm → EndlessRow → RowAtZero
row_at_zero f r = record { settled = f; row = r }

-- the form is that of a net of which the row is one
abbrev pub IsRowAtZero : RowAtZero → Type 0
IsRowAtZero a = IsSettledRow a.settled a.row

-- past the settling number the dates of the row's transition rise by so much in so many firings
pub record IsCycleOf (a : RowAtZero) (c : Cycle) : Type 0 where
  pub some : 1 ≤ c.firings
  pub few : c.firings ≤ most_rows
  pub low : c.rise ≤ greatest_least_date
  pub rises : RisesIn a.settled a.row.transition.index c.firings c.rise

-- past the number the dates of the row's transition repeat, and so do the due dates
pub record GoesOnPast (a : RowAtZero) (past : ℕ) : Type 0 where
  pub after : a.settled.after ≤ past
  pub listed : length a.row.dates ≤ past + a.row.every
  pub few : past ≤ most_rows + most_endless_dates

-- each turn gains on the due dates, and none is late up to the first turn past the number from which they repeat together
pub record GainsByTurns (a : RowAtZero) (turn : CommonPeriod) : Type 0 where
  pub common : IsCommonPeriodOf (settled_date a.settled) a.row turn.past turn.firings turn.rise turn.fall
  pub last : turn.past + turn.firings ≤ greatest_firing_number
  pub steep : turn.fall < turn.rise
  pub in_time : NoneLateTo (settled_date a.settled) a.row (turn.past + turn.firings)

-- the least late number of the row, and how great it is
pub record IsSoonLate (f : SettledForm) (r : EndlessRow) (k due least : ℕ) : Type 0 where
  pub is : IsLeastLate (settled_date f) r k due least
  pub number_in : k < late_number_bound
  pub due_in : due < late_date_bound
  pub least_in : least < late_date_bound

-- the number, so many turns on, is the least late number of the row
abbrev pub IsLateAfter : SettledForm → EndlessRow → CommonPeriod → Soonest → Type 0
IsLateAfter f r turn s = IsSoonLate f r (s.number + s.turns * turn.firings) (s.due + s.turns * turn.fall) (s.least + s.turns * turn.rise)

-- no number past this one is late
abbrev pub NoneLatePast : (ℕ → ℕ → Date) → EndlessRow → ℕ → Type 0
NoneLatePast x r past = (k due least : ℕ) → past < k → IsLateAt x r k due least → ⊥

-- ---- classes of numbers past one, by the rest of their places

-- a place of the class, by its number in it
abbrev pub member : Class → ℕ → ℕ
member class number = number * class.divisor + class.rest

-- the divisor divides both periods
pub record IsClassOf (firings every : ℕ) (class : Class) : Type 0 where
  pub low : class.rest < class.divisor
  pub of_cycle : class.divisor ∣ firings
  pub of_turn : class.divisor ∣ every

-- no number so many places past this one, or further, is late whose place is of the class
abbrev pub NoneLateInClass : (ℕ → ℕ → Date) → EndlessRow → ℕ → ℕ → Class → Type 0
NoneLateInClass x r past places class = (k due least : ℕ) → past + places < k → (k - past - 1) % class.divisor ≡ class.rest → IsLateAt x r k due least → ⊥

-- times the firings of a cycle no date of its places of the class past this number is above a line that rises as the cycle does, from
-- `start` on less the rise for each of its firings
abbrev pub AreDatesUnder : SettledForm → ℕ → ℕ → Cycle → Class → ℕ → Type 0
AreDatesUnder f t past cycle class start =
    (i z : ℕ) → i < cycle.firings / class.divisor → settled_date f t (past + 1 + member class i) ≡ At (pos z) → cycle.firings * z + cycle.rise * cycle.firings ≤ start + cycle.rise * member class i

-- times `every` no due date of the first `every` places of the class past this number is below a line that rises as the row does, from
-- `start` on less the gap for each of these places
abbrev pub AreDuesOver : EndlessRow → ℕ → Class → ℕ → Type 0
AreDuesOver r past class start =
    (j d : ℕ) → j < r.every / class.divisor → row_due r (past + 1 + member class j) ≡ Some d → start + r.gap * member class j ≤ r.every * d + r.gap * r.every

-- times both periods: after so many places the line under the dates is no higher than that over the due dates, and it rises no faster
pub record AreApartAfter (r : EndlessRow) (cycle : Cycle) (under over places : ℕ) : Type 0 where
  pub start : r.every * under + cycle.firings * (r.gap * r.every) + places * (cycle.rise * r.every)
      ≤ cycle.firings * over + cycle.rise * cycle.firings * r.every + places * (cycle.firings * r.gap)
  pub slope : cycle.rise * r.every ≤ cycle.firings * r.gap

-- the longest cycle whose dates are held against due dates by lines
abbrev pub most_cycle : ℕ
most_cycle = 100000

-- no number whose due date is held against a line is as great
abbrev pub greatest_row_number : ℕ
greatest_row_number = 2000000000000000

-- it holds of the least dating of the net with all inputs at 0
abbrev pub InLeastAtZero : NetLists → ((ℕ → ℕ → Date) → Type 0) → Type 0
InLeastAtZero net P = (x : ℕ → ℕ → Date) → IsLeastUnder net inputs_at_zero x → P x

-- if the row has a late number, it has one up to this
abbrev pub TellsWhetherLate : NetLists → EndlessRow → ℕ → Type 0
TellsWhetherLate net r last = InLeastAtZero net (λ x. NoneLateTo x r last → NoneLate x r)
