-- Settled forms by the rows of dates that show them.
use Rattle.std.specs.Prelude.{ℕ, ℤ, ◌+◌, ◌≤◌, List, map}
use Rattle.std.specs.List.{range_with_len}
use Rattle.dioid.specs.declared.dates.Date.{Date}
use Rattle.periodic_laws.specs.settled_laws.SettledForms.{SettledForm}
use Rattle.date_rows.specs.DateTables.{TableDates, date_at}
use Rattle.teg_settle.specs.declared.releases.Repetition.{Repetition}
use Rattle.settled_forms.specs.KeptForms.{IsFormKept}

-- the dates of transition t up to number `count`
abbrev pub shown_dates : TableDates → ℕ → ℕ → List Date
shown_dates rows count t = map (λ k. date_at rows t (k + 1)) (range_with_len 0 count)

-- the form with this number and this period, the dates of the rows up to their end, and these steps
abbrev pub shown_form : TableDates → Repetition → List ℤ → SettledForm
shown_form rows f steps = record { after = f.after; period = f.period; rows = map (shown_dates rows (f.after + f.period)) (range_with_len 0 rows.width); steps = steps }

-- the form that the rows show keeps the limits of a form in memory, and the rows go as far
pub record IsShown (rows : TableDates) (f : Repetition) (steps : List ℤ) : Type 0 where
  pub kept : IsFormKept (shown_form rows f steps)
  pub fits : f.after + f.period ≤ rows.count
