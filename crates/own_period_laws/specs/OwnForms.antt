-- The form of datings whose transitions go on by periods of their own (chapter 3).
use Rattle.std.specs.Prelude.{ℕ, ℤ, ◌+◌, ◌<◌, ◌≤◌, ◌≡◌}
use Rattle.std.specs.Int.{◌∣◌}
use Rattle.dioid.specs.declared.dates.Date.{Date}
use Rattle.dioid.specs.Dates.{move}
use Rattle.settled_laws.specs.SettledForms.{RepeatsAfter}
use Rattle.own_period_laws.specs.OwnPeriods.{GoesOn}

-- past `from` the dates go on by the step in the period, and by none in a smaller one
pub record IsOwnPeriod (dates : ℕ → Date) (from period : ℕ) (step : ℤ) : Type 0 where
  pub at_least_one : 1 ≤ period
  pub again : GoesOn dates from period step
  pub least : (p : ℕ) (s : ℤ) → 1 ≤ p → p < period → GoesOn dates from p s → ⊥

-- the least common multiple of the first `count` periods
pub record IsLeastCommon (count : ℕ) (period : ℕ → ℕ) (whole : ℕ) : Type 0 where
  pub at_least_one : 1 ≤ whole
  pub common : (t : ℕ) → t < count → period t ∣ whole
  pub least : (m : ℕ) → ((t : ℕ) → t < count → period t ∣ m) → whole ∣ m

-- past `after` each of the first `count` transitions goes on by its own period, and some does not from one number before
pub record IsBegun (count : ℕ) (x : ℕ → ℕ → Date) (period : ℕ → ℕ) (step : ℕ → ℤ) (after : ℕ) : Type 0 where
  pub again : (t : ℕ) → t < count → GoesOn (x t) after (period t) (step t)
  pub first : 1 ≤ after → ((t : ℕ) → t < count → x t (after + period t) ≡ move (step t) (x t after)) → ⊥

-- all go on by the period past the number, and none of both is smaller in any form
pub record IsLeastForm (count : ℕ) (x : ℕ → ℕ → Date) (after whole : ℕ) : Type 0 where
  pub by : ℕ → ℤ
  pub repeats : RepeatsAfter count x after whole by
  pub least_period : (k p : ℕ) (s : ℕ → ℤ) → RepeatsAfter count x k p s → whole ≤ p
  pub least_after : (k p : ℕ) (s : ℕ → ℤ) → RepeatsAfter count x k p s → after ≤ k

-- own periods tell that
abbrev pub OwnPeriodsTellForms : Type 0
OwnPeriodsTellForms = (count : ℕ) (x : ℕ → ℕ → Date) (from : ℕ) (period : ℕ → ℕ) (step : ℕ → ℤ)
    → ((t : ℕ) → t < count → IsOwnPeriod (x t) from (period t) (step t))
    → (whole after : ℕ) → IsLeastCommon count period whole → IsBegun count x period step after
    → IsLeastForm count x after whole
