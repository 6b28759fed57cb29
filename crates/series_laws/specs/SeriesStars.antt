-- The star of a function: the greatest sums over lists of positive parts.
use Rattle.std.proofs.Common.{◌≡◌, ℕ, pos, ◌+◌, ◌<◌, List, [], ◌∷◌}
use Rattle.dioid.specs.Dates.{date_product}
use Rattle.dioid.specs.declared.dates.Date.{Date}
use Rattle.dioid.specs.declared.dates.Date.TheVariants.{Early, At, Never}
use Rattle.dioid.specs.DateOrder.{Le}
use Rattle.series_laws.specs.Periodic.{times}

-- the parts added
abbrev pub total_of_parts : List ℕ → ℕ
total_of_parts [] = 0
total_of_parts (c ∷ l) = c + total_of_parts l

-- the values of the parts added
abbrev pub sum_of_values : (ℕ → Date) → List ℕ → Date
sum_of_values s [] = At (pos 0)
sum_of_values s (c ∷ l) = date_product (s c) (sum_of_values s l)

-- each part is above 0
abbrev pub ArePositive : List ℕ → Type 0
ArePositive [] = Unit {0}
ArePositive (c ∷ l) = (0 < c) × ArePositive l

-- x is the greatest sum of values over lists of positive parts that add up to k, and at least 0
pub record IsStarAt (s : ℕ → Date) (k : ℕ) (x : Date) : Type 0 where
  pub zero_below : Le (At (pos 0)) x
  pub below : (l : List ℕ) → ArePositive l → total_of_parts l ≡ k → Le (sum_of_values s l) x
  pub least : (y : Date) → Le (At (pos 0)) y → ((l : List ℕ) → ArePositive l → total_of_parts l ≡ k → Le (sum_of_values s l) y) → Le x y

-- m times the date
abbrev pub scaled : ℕ → Date → Date
scaled m Early = Early
scaled m (At v) = At (times m v)
scaled m Never = Never
