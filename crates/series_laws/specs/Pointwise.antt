-- The sum and the minimum of two functions, shift by shift.
use Rattle.std.proofs.Common.{ℕ}
use Rattle.dioid.specs.Dates.{later_of, earlier_of}
use Rattle.dioid.specs.declared.dates.Date.{Date}

-- the sum of two functions: at each shift the greater value
abbrev pub sum_at : (ℕ → Date) → (ℕ → Date) → ℕ → Date
sum_at s t k = later_of (s k) (t k)

-- the minimum of two functions: at each shift the lesser value
abbrev pub least_at : (ℕ → Date) → (ℕ → Date) → ℕ → Date
least_at s t k = earlier_of (s k) (t k)
