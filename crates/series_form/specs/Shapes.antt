-- The canonical form as a part of the list that it was found by.
use Rattle.std.specs.Prelude.{◌≡◌, ◌≤◌, ◌-◌, ◌⊎◌, ℕ, ℤ, List, length, take, FitsSigned}
use Rattle.std.specs.Int.{w128}
use Rattle.dioid.specs.declared.dates.Date.{Date}
use Rattle.series_form.specs.declared.shorten.Shape.{Shape}
use Rattle.series_laws.specs.SeriesForms.{Form, form_with, value_at, HasValues, IsCanonical, canonical_of}
use Rattle.series_form.specs.NumberBounds.{HasSmallNumbers}
use Rattle.series_form.specs.SeriesAnswers.{IsFirstGreatValue, IsGreatStep, form_before}

-- the canonical form of the function of a list, a period and a step
abbrev pub shortened : List Date → ℕ → ℤ → Form
shortened l n x = canonical_of (value_at (form_with l n x)) (length l - n) n

-- the canonical form is the first part of the list
pub record IsPart (l : List Date) (n : ℕ) (x : ℤ) (s : Shape) : Type 0 where
  pub fits : s.size ≤ length l
  pub form : shortened l n x ≡ form_with (take s.size l) s.period s.step
  pub step_fits : FitsSigned w128 s.step

-- the first part of the list, with the period and the step, is a canonical form, and its function is the one that the list and
-- the value after it begin
pub record IsCanonicalPart (l : List Date) (n : ℕ) (next : Date) (s : Shape) : Type 0 where
  pub fits : s.size ≤ length l
  pub canonical : IsCanonical (form_with (take s.size l) s.period s.step)
  pub values : HasValues (form_with (take s.size l) s.period s.step) (value_at (form_before l n next))
  pub step_fits : FitsSigned w128 s.step

-- the canonical form is the first part of the list, and its numbers are small
pub record IsShape (l : List Date) (n : ℕ) (x : ℤ) (s : Shape) : Type 0 where
  pub fits : s.size ≤ length l
  pub form : shortened l n x ≡ form_with (take s.size l) s.period s.step
  pub small : HasSmallNumbers (shortened l n x)

-- v is the first number of the canonical form that is too great
abbrev pub IsTooGreat : List Date → ℕ → ℤ → ℤ → Type 0
IsTooGreat l n x v = IsFirstGreatValue (shortened l n x) v ⊎ IsGreatStep (shortened l n x) v
