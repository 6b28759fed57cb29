-- By how much the values of a series are later than a step for each shift up to theirs.
use Rattle.std.specs.Prelude.{ℕ, ℤ, ◌≡◌, ◌<◌, ◌≤◌, ◌≤ℤ◌, ◌+ℤ◌, ◌-ℤ◌, Option, Some, None, ⊤}
use Rattle.std.specs.Int.{int_max}
use Rattle.dioid.specs.declared.dates.Date.{Date}
use Rattle.dioid.specs.declared.dates.Date.TheVariants.{Early, At, Never}
use Rattle.series_laws.specs.Periodic.{times}
use Rattle.series_laws.specs.SeriesForms.{Form, size_of, value_at, IsForm}
use Rattle.series_laws.specs.declared.plans.Slopes.TheVariants.{First}
use Rattle.series_laws.specs.Needs.{slopes_of}

-- no number among the first values is later than the lead and the steps up to its shift, and one is just that
pub record IsLeadBelow (f : Form) (step : ℤ) (count : ℕ) (lead : ℤ) : Type 0 where
  pub over : (i : ℕ) (z : ℤ) → i < count → value_at f i ≡ At z → z ≤ℤ (lead +ℤ times i step)
  pub place : ℕ
  pub attained : value_at f place ≡ At (lead +ℤ times place step)

-- the lead of the first values, none where none of them is a number
abbrev pub IsLeadTo : Form → ℤ → ℕ → Option ℤ → Type 0
IsLeadTo f step count (Some lead) = IsLeadBelow f step count lead
IsLeadTo f step count None = (i : ℕ) (z : ℤ) → i < count → value_at f i ≡ At z → ⊥

-- the greater of two leads, one of which may be none
abbrev pub later_lead : Option ℤ → ℤ → ℤ
later_lead (Some lead) own = int_max lead own
later_lead None own = own

-- the date is a number
abbrev pub IsNumber : Date → Type 0
IsNumber Early = ⊥
IsNumber (At t) = ⊤
IsNumber Never = ⊥

-- the first form has no greater slope
abbrev pub GainsNoMore : Form → Form → Type 0
GainsNoMore f g = slopes_of f g ≡ First → ⊥

-- the lead with one value more
abbrev pub IsLeadMore : Option ℤ → Date → ℤ → Option ℤ → Type 0
IsLeadMore lead Early gained more = more ≡ lead
IsLeadMore lead (At date) gained more = more ≡ Some (later_lead lead (date -ℤ gained))
IsLeadMore lead Never gained more = more ≡ lead

-- the second form rises by its step from each shift to the next, no value of the first is never, none is later than the lead and these
-- steps up to its shift, and one is just that
pub record IsLeadOver (f g : Form) (lead : ℤ) : Type 0 where
  pub first : IsForm f
  pub second : IsForm g
  pub short : size_of f ≤ 20000
  pub steady : size_of g ≡ 1
  pub start : ℤ
  pub starts : value_at g 0 ≡ At start
  pub numbers : (i : ℕ) → value_at f i ≡ Never → ⊥
  pub over : (i : ℕ) (z : ℤ) → value_at f i ≡ At z → z ≤ℤ (lead +ℤ times i g.step)
  pub place : ℕ
  pub attained : value_at f place ≡ At (lead +ℤ times place g.step)
