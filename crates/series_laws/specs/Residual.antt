-- The residual of a function by another.
use Rattle.std.proofs.Common.{ℕ, zero, suc, ◌+◌}
use Rattle.dioid.specs.Dates.{earlier_of, date_left}
use Rattle.dioid.specs.declared.dates.Date.{Date}
use Rattle.dioid.specs.DateOrder.{Le}

-- x is the greatest date that is at most f i for each i
pub record IsGreatestBelow (f : ℕ → Date) (x : Date) : Type 0 where
  pub below : (i : ℕ) → Le x (f i)
  pub greatest : (y : Date) → ((i : ℕ) → Le y (f i)) → Le y x

-- x is the residual of t by s at k
abbrev pub IsLeftAt : (ℕ → Date) → (ℕ → Date) → ℕ → Date → Type 0
IsLeftAt s t k x = IsGreatestBelow (λ i. date_left (s i) (t (k + i))) x

-- the least of f 0, .., f n
abbrev pub least_of_first : (ℕ → Date) → ℕ → Date
least_of_first f zero = f 0
least_of_first f (suc n) = earlier_of (least_of_first f n) (f (suc n))
