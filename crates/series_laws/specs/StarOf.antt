-- The star of a series as a function.
use Rattle.std.proofs.Common.{◌≡◌, ℕ, pos, negsuc, zero, suc, ◌-◌, ◌⊎◌, Bool, true, false, List}
use Rattle.dioid.specs.Dates.{later_of, date_product}
use Rattle.dioid.specs.declared.dates.Date.{Date}
use Rattle.dioid.specs.declared.dates.Date.TheVariants.{Early, At, Never}
use Rattle.dioid.specs.DateOrder.{Le}
use Rattle.series_laws.specs.Product.{greatest_of_first, product_at}
use Rattle.series_laws.specs.SeriesStars.{total_of_parts, sum_of_values, ArePositive}

-- the values at positive shifts
abbrev pub positive_part : (ℕ → Date) → ℕ → Date
positive_part s zero = Early
positive_part s (suc c) = s (suc c)

-- the greatest sum of values over lists of m positive parts
abbrev pub power_at : (ℕ → Date) → ℕ → ℕ → Date
power_at s zero zero = At (pos 0)
power_at s zero (suc k) = Early
power_at s (suc m) k = product_at (positive_part s) (power_at s m) k

-- the greater of 0 and the greatest power
abbrev pub parts_star : (ℕ → Date) → ℕ → Date
parts_star s k = later_of (At (pos 0)) (greatest_of_first (λ m. power_at s m k) k)

-- the star: Never everywhere where the first value is above 0
abbrev pub star_by : Date → (ℕ → Date) → ℕ → Date
star_by Early s k = parts_star s k
star_by (At (pos zero)) s k = parts_star s k
star_by (At (pos (suc n))) s k = Never
star_by (At (negsuc n)) s k = parts_star s k
star_by Never s k = Never

-- the star at k
abbrev pub star_at : (ℕ → Date) → ℕ → Date
star_at s = star_by (s 0) s

-- the monomial of shift 1 and date 0
abbrev pub from_one : ℕ → Date
from_one zero = Early
from_one (suc k) = At (pos 0)

-- the sum with that monomial
abbrev pub with_one : (ℕ → Date) → ℕ → Date
with_one s k = later_of (s k) (from_one k)

-- the greater of 0 and the greatest sum of a first part and the star of the rest
abbrev pub first_parts : (ℕ → Date) → (ℕ → Date) → ℕ → Date
first_parts s star zero = At (pos 0)
first_parts s star (suc k) = later_of (At (pos 0)) (greatest_of_first (λ c. date_product (s (suc c)) (star (k - c))) k)

-- x is the greater of 0 and the greatest sum of values over lists of positive parts that add up to k
pub record IsGreatestStarSum (s : ℕ → Date) (k : ℕ) (x : Date) : Type 0 where
  pub zero_below : Le (At (pos 0)) x
  pub below : (l : List ℕ) → ArePositive l → total_of_parts l ≡ k → Le (sum_of_values s l) x
  pub reached : (x ≡ At (pos 0)) ⊎ ((l : List ℕ) × ArePositive l × (total_of_parts l ≡ k) × (sum_of_values s l ≡ x))

-- x is the star at k, by the first value
abbrev pub IsStarBy : Date → (ℕ → Date) → ℕ → Date → Type 0
IsStarBy Early s k x = IsGreatestStarSum s k x
IsStarBy (At (pos zero)) s k x = IsGreatestStarSum s k x
IsStarBy (At (pos (suc n))) s k x = x ≡ Never
IsStarBy (At (negsuc n)) s k x = IsGreatestStarSum s k x
IsStarBy Never s k x = x ≡ Never

-- x is the star at k: Never where the first value is above 0, else the greatest sum, at least 0
abbrev pub IsStarOf : (ℕ → Date) → ℕ → Date → Type 0
IsStarOf s = IsStarBy (s 0) s

-- whether a date is above 0
abbrev pub above_zero : Date → Bool
above_zero Early = false
above_zero (At (pos zero)) = false
above_zero (At (pos (suc n))) = true
above_zero (At (negsuc n)) = false
above_zero Never = true
