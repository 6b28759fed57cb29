-- The product of two functions.
use Rattle.std.proofs.Common.{ℕ, ℤ, zero, suc, ◌-◌}
use Rattle.std.specs.Prelude.{cond, ltb}
use Rattle.dioid.specs.Dates.{later_of, date_product, move}
use Rattle.dioid.specs.declared.dates.Date.{Date}
use Rattle.dioid.specs.declared.dates.Date.TheVariants.{Early}

-- the greatest of f 0, .., f n
abbrev pub greatest_of_first : (ℕ → Date) → ℕ → Date
greatest_of_first f zero = f 0
greatest_of_first f (suc n) = later_of (greatest_of_first f n) (f (suc n))

-- the greatest s i and t j added, i and j adding up to k
abbrev pub product_at : (ℕ → Date) → (ℕ → Date) → ℕ → Date
product_at s t k = greatest_of_first (λ i. date_product (s i) (t (k - i))) k

-- the function n shifts later with its dates moved by t, Early below the shift n
abbrev pub shifted : ℕ → ℤ → (ℕ → Date) → ℕ → Date
shifted n t s k = cond (ltb k n) Early (move t (s (k - n)))
