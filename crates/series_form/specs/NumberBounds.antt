-- The bounds of a series' numbers, and those of the numbers on the way to one.
use Rattle.std.specs.Prelude.{◌≤◌, ℕ, get_or}
use Rattle.std.specs.Int.RustNames.{unsigned_abs}
use Rattle.dioid.specs.declared.dates.Date.{Date}
use Rattle.dioid.specs.declared.dates.Date.TheVariants.{Early, At, Never}
use Rattle.series_laws.specs.SeriesForms.{Form, size_of, IsCanonical}
use Rattle.series_form.specs.SeriesLimits.{greatest_value, greatest_moderate}

-- a number has a magnitude of at most n
abbrev pub IsMagnitudeUpTo : ℕ → Date → Type 0
IsMagnitudeUpTo n Early = Unit {0}
IsMagnitudeUpTo n (At t) = unsigned_abs t ≤ n
IsMagnitudeUpTo n Never = Unit {0}

-- a date that a series may have
abbrev pub IsSmallDate : Date → Type 0
IsSmallDate d = IsMagnitudeUpTo greatest_value d

-- a date that an operation may compute before its result is found small
abbrev pub IsModerateDate : Date → Type 0
IsModerateDate d = IsMagnitudeUpTo greatest_moderate d

-- each value and the step are moderate
pub record IsModerate (f : Form) : Type 0 where
  pub values : (k : ℕ) → IsModerateDate (get_or f.values k Early)
  pub step : unsigned_abs f.step ≤ greatest_moderate

-- each value and the step are small
pub record HasSmallNumbers (f : Form) : Type 0 where
  pub values : (k : ℕ) → IsSmallDate (get_or f.values k Early)
  pub step : unsigned_abs f.step ≤ greatest_value

-- what a series is: a canonical form with a list of at most 20,000 values and with small numbers
pub record IsSeries (f : Form) : Type 0 where
  pub canonical : IsCanonical f
  pub short : size_of f ≤ 20000
  pub small : HasSmallNumbers f
