-- How many dates come up to a date (chapter 5, counters).
use Rattle.std.specs.Prelude.{ℕ, ℤ, pos, ◌+◌, ◌*◌, ◌+ℤ◌, ◌*ℤ◌, ◌<◌, ◌≤◌, ◌≡◌, ◌⊎◌, ◌↔◌, Option, Some, None}
use Rattle.dioid.specs.declared.dates.Date.{Date}
use Rattle.dioid.specs.declared.dates.Date.TheVariants.{Early, At}
use Rattle.dioid.specs.Dates.{IsAtMostDate, move}
use Rattle.settled_laws.specs.SettledForms.{SettledForm, settled_date, step_of_form}
use Rattle.counter_laws.specs.Counters.{IsUpTo}
use Rattle.date_counts.specs.declared.counts.Rounds.{Rounds}

-- just the dates up to this number, from 1 on, come by date d; all of them where there is none
abbrev pub IsCountUpTo : (ℕ → Date) → ℕ → Option ℕ → Type 0
IsCountUpTo dates d count = (k : ℕ) → 1 ≤ k → IsAtMostDate (dates k) (At (pos d)) ↔ IsUpTo k count

-- just the dates up to number n come by the limit
abbrev pub IsCountOf : (ℕ → Date) → ℕ → ℕ → Type 0
IsCountOf dates limit n = (k : ℕ) → 1 ≤ k → IsAtMostDate (dates k) (At (pos limit)) ↔ (k ≤ n)

-- dates that never fall
abbrev pub Rise : (ℕ → Date) → Type 0
Rise dates = (j k : ℕ) → 1 ≤ j → j ≤ k → IsAtMostDate (dates j) (dates k)

-- by so many steps the number comes up to the limit, or it is past it by none, and by one more it does not
abbrev pub AreSteps : ℕ → ℕ → ℕ → Option Rounds → Type 0
AreSteps last step limit None = (last ≤ limit) × (step ≡ 0)
AreSteps last step limit (Some r) =
    ((r.count ≡ 0) ⊎ (last + r.count * step ≤ limit)) × (limit < last + (r.count + 1) * step) × (r.rest + r.count * step ≡ limit)

-- the same of a date, for which no number of steps is too many where it is before all numbers
abbrev pub IsRounds : Date → ℤ → ℕ → Option Rounds → Type 0
IsRounds last step limit None = IsAtMostDate last (At (pos limit)) × ((last ≡ Early) ⊎ (step ≡ pos 0))
IsRounds last step limit (Some r) =
    ((r.count ≡ 0) ⊎ IsAtMostDate (move (pos r.count *ℤ step) last) (At (pos limit)))
    × (IsAtMostDate (move (pos (r.count + 1) *ℤ step) last) (At (pos limit)) → ⊥)
    × ((pos r.rest +ℤ (pos r.count *ℤ step)) ≡ pos limit)

-- the dates that the form tells of the transition never fall, and past its number they go on by its step in each period
pub record IsSteady (f : SettledForm) (t : ℕ) : Type 0 where
  pub some : 1 ≤ f.period
  pub rise : Rise (settled_date f t)
  pub again : (k j : ℕ) → f.after < k → settled_date f t (k + j * f.period) ≡ move (pos j *ℤ step_of_form f t) (settled_date f t k)
