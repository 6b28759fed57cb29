-- Dates of firings that never fall, and that repeat past some number.
use Rattle.std.specs.Prelude.{ℕ, ℤ, ◌+◌, ◌<◌, ◌≤◌, ◌≡◌}
use Rattle.series_ops.specs.dioid.declared.dates.Date.{Date}
use Rattle.series_ops.specs.dioid.Dates.{IsAtMostDate, move}

-- from number 1 on the dates never fall, and past some number they go on by a step in each period
pub record IsPeriodic (dates : ℕ → Date) : Type 0 where
  pub after : ℕ
  pub period : ℕ
  pub step : ℤ
  pub at_least_one : 1 ≤ period
  pub rises : (k : ℕ) → 1 ≤ k → IsAtMostDate (dates k) (dates (k + 1))
  pub again : (k : ℕ) → after < k → dates (k + period) ≡ move step (dates k)

-- the dates of each of the first `count` transitions never fall, and past some number go on by a step in each period of its own
abbrev pub ArePeriodic : ℕ → (ℕ → ℕ → Date) → Type 0
ArePeriodic count x = (t : ℕ) → t < count → IsPeriodic (x t)
