-- First values of a series that tell a residual: the others are so much earlier that they add nothing to it.
use Rattle.std.specs.Prelude.{ℕ, ℤ, pos, ◌≡◌, ◌<◌, ◌≤◌, ◌+◌, ◌≤ℤ◌, ◌+ℤ◌, ◌-ℤ◌, Bool, true, false, Option, Some, None, Result, Ok, Err, take, ⊤}
use Rattle.dioid.specs.ElementAnswers.{Answers}
use Rattle.dioid.specs.declared.algebra.Refused.{Refused}
use Rattle.dioid.specs.declared.algebra.Refused.TheVariants.{OutOfMemory}
use Rattle.dioid.specs.declared.dates.Date.{Date}
use Rattle.dioid.specs.declared.dates.Date.TheVariants.{At}
use Rattle.series_laws.specs.Needs.{tail_of}
use Rattle.series_laws.specs.Periodic.{times}
use Rattle.series_laws.specs.SeriesForms.{Form, form_with, repeat_start, size_of, value_at}
use Rattle.series_form.specs.NumberBounds.{IsSeries}
use Rattle.series_ops.specs.declared.gains.Gain.{Gain}
use Rattle.series_ops.specs.Gains.{gain_left, LeftFits}

-- no number from the shift `from` on, among the first `until`, is later than the level and the steps up to its shift
abbrev pub IsUnder : Form → ℤ → ℕ → ℕ → ℤ → Type 0
IsUnder f step from until level = (i : ℕ) (z : ℤ) → from ≤ i → i < until → value_at f i ≡ At z → z ≤ℤ (level +ℤ times i step)

-- no number among the first values is earlier than one before it and the steps since by more than the drop
abbrev pub IsDropTo : Form → ℤ → ℕ → ℤ → Type 0
IsDropTo g step count drop = (k e : ℕ) (x y : ℤ) → k + e < count → value_at g k ≡ At x → value_at g (k + e) ≡ At y → (x +ℤ times e step) ≤ℤ (y +ℤ drop)

-- where the answer is no, the date is no number that is later than what is gained by more than the level
abbrev pub IsNotAbove : Date → ℤ → ℤ → Bool → Type 0
IsNotAbove value gained level true = ⊤
IsNotAbove value gained level false = (z : ℤ) → value ≡ At z → z ≤ℤ (level +ℤ gained)

-- the drop of the list, which is no less than 0
pub record IsDrop (g : Form) (drop : ℤ) : Type 0 where
  pub low : pos 0 ≤ℤ drop
  pub drops : IsDropTo g g.step (size_of g) drop

-- the place in the list of a number that is later than the steps up to it by just the lead
pub record IsPlaceOf (f : Form) (step lead : ℤ) (place : ℕ) : Type 0 where
  pub within : place < size_of f
  pub attained : value_at f place ≡ At (lead +ℤ times place step)

-- a number of steps, from each shift to the next, tells of the second what a period does, and the first gains no more in one of its
-- periods; among its first `count` values is one that is later than the steps by a lead, and all after them are less late, by the drop of
-- the second at least
pub record IsCut (f g : Form) (count : ℕ) : Type 0 where
  pub first : IsSeries f
  pub second : IsSeries g
  pub single : g.period ≡ 1
  pub room : size_of g + f.period ≤ 20001
  pub slow : f.step ≤ℤ times f.period g.step
  pub tail : ℤ
  pub is_tail : tail_of f ≡ At tail
  pub lead : ℤ
  pub drop : ℤ
  pub place : ℕ
  pub before : place < count
  pub early : count ≤ repeat_start f
  pub attained : value_at f place ≡ At (lead +ℤ times place g.step)
  pub is_drop : IsDrop g drop
  pub under : IsUnder f g.step count (size_of f) (lead -ℤ drop)

-- the first values, the last of which stays
abbrev pub cut_form : Form → ℕ → Form
cut_form f count = form_with (take count f.values) 1 (pos 0)

-- the residual, where one is told
abbrev pub IsToldOf : Gain → Gain → Result (Option Gain) Refused → Type 0
IsToldOf a b (Ok (Some residual)) = Answers true (LeftFits a b) (gain_left a b) (Ok residual)
IsToldOf a b (Ok None) = ⊤
IsToldOf a b (Err why) = why ≡ OutOfMemory
