-- Dates as numbers: two far numbers stand for Early and Never.
use Rattle.std.specs.Prelude.{◌≡◌, ◌≤◌, ◌<◌, ◌-◌, ◌-ℤ◌, ◌≤ℤ◌, ◌⊎◌, ℕ, ℤ, pos, negsuc, suc, cond, ltb, Bool, true, List, [], ◌∷◌, ◌++◌, length, get_or, map, reverse}
use Rattle.dioid.specs.declared.dates.Date.{Date}
use Rattle.dioid.specs.declared.dates.Date.TheVariants.{Early, At, Never}
use Rattle.series_form.specs.NumberBounds.{IsMagnitudeUpTo}
use Rattle.series_form.specs.SeriesLimits.{greatest_listed, greatest_reach}

-- ---- by any such two numbers

-- the number that stands for a date, by those that stand for Early and Never
abbrev pub cell_by : ℤ → ℤ → Date → ℤ
cell_by early never Early = early
cell_by early never (At t) = t
cell_by early never Never = never

-- the date that a number stands for, where one of a greater magnitude stands for no number
abbrev pub date_by_far : ℕ → ℤ → Date
date_by_far far (pos n) = cond (ltb far n) Never (At (pos n))
date_by_far far (negsuc n) = cond (ltb far (suc n)) Early (At (negsuc n))

-- the number is that of a date, with a magnitude of at most `most`
pub record IsCellBy (far most : ℕ) (early never z : ℤ) : Type 0 where
  pub own : cell_by early never (date_by_far far z) ≡ z
  pub bound : IsMagnitudeUpTo most (date_by_far far z)

-- each number is one of a date
abbrev pub AreCellsBy : ℕ → ℕ → ℤ → ℤ → List ℤ → Type 0
AreCellsBy far most early never l = (k : ℕ) → k < length l → IsCellBy far most early never (get_or l k (pos 0))

-- ---- in sixteen bytes

-- a number of a greater magnitude stands for no number
abbrev pub far : ℕ
far = 1000000000000000000000000000000

-- the number that stands for Never
abbrev pub never_cell : ℤ
never_cell = pos 1000000000000000000000000000000000000

-- the number that stands for Early: its sum with the one for Never stands for Early too
abbrev pub early_cell : ℤ
early_cell = pos 0 -ℤ pos greatest_reach

-- the number that stands for a date
abbrev pub cell_of_date : Date → ℤ
cell_of_date d = cell_by early_cell never_cell d

-- the date that a number stands for
abbrev pub date_of_far_cell : ℤ → Date
date_of_far_cell z = date_by_far far z

-- each number is one of a date
abbrev pub AreCells : List ℤ → Type 0
AreCells l = AreCellsBy far greatest_listed early_cell never_cell l

-- ---- in eight bytes

-- a number of a greater magnitude stands for no number
abbrev pub short_far : ℕ
short_far = 1800000000000000000

-- no number of a list in eight bytes has a greater magnitude
abbrev pub greatest_short : ℕ
greatest_short = 900000000000000000

-- the number that stands for Never
abbrev pub never_short : ℤ
never_short = pos 2750000000000000000

-- the number that stands for Early: its sum with the one for Never stands for Early too
abbrev pub early_short : ℤ
early_short = pos 0 -ℤ pos 4600000000000000000

-- the number that stands for a date
abbrev pub short_of : Date → ℤ
short_of d = cell_by early_short never_short d

-- the date that a number stands for
abbrev pub date_of_short_cell : ℤ → Date
date_of_short_cell z = date_by_far short_far z

-- each number is one of a date
abbrev pub AreShort : List ℤ → Type 0
AreShort l = AreCellsBy short_far greatest_short early_short never_short l

-- the numbers of l in eight bytes stand for the first dates of n
pub record AreShortOf (l n : List ℤ) : Type 0 where
  pub fits : length l ≤ length n
  pub short : AreShort l
  pub same : (k : ℕ) → k < length l → date_of_short_cell (get_or l k (pos 0)) ≡ date_of_far_cell (get_or n k (pos 0))

-- m is l, or l and the number of the date in eight bytes behind it
abbrev pub IsPushed : List ℤ → List ℤ → Date → Type 0
IsPushed l m d = (m ≡ l) ⊎ ((m ≡ l ++ short_of d ∷ []) × IsMagnitudeUpTo greatest_short d)

-- ---- jumps

-- the number n stands in the list
pub record IsListed (l : List ℕ) (n : ℕ) : Type 0 where
  pub place : ℕ
  pub inside : place < length l
  pub is : get_or l place 0 ≡ n

-- the numbers of l stand in m, too
abbrev pub AreStillListed : List ℕ → List ℕ → Type 0
AreStillListed l m = (n : ℕ) → IsListed l n → IsListed m n

-- each place whose number is not that of the place before stands in j
abbrev pub AreJumps : List ℕ → List ℤ → Type 0
AreJumps j l = (k : ℕ) → suc k < length l → (get_or l (suc k) (pos 0) ≡ get_or l k (pos 0)) ⊎ IsListed j (suc k)

-- no number is below the one before
abbrev pub AreRising : List ℤ → Type 0
AreRising l = (k : ℕ) → suc k < length l → get_or l k (pos 0) ≤ℤ get_or l (suc k) (pos 0)

-- the jumps of l stand in j, and l rises where this is said
pub record AreStairs (j : List ℕ) (rising : Bool) (l : List ℤ) : Type 0 where
  pub jumps : AreJumps j l
  pub rises : rising ≡ true → AreRising l

-- z is the last number of l, or the place behind l stands in j
abbrev pub IsJumpListed : List ℕ → List ℤ → ℤ → Type 0
IsJumpListed j l z = 0 < length l → (z ≡ get_or l (length l - 1) (pos 0)) ⊎ IsListed j (length l)

-- the last number of l is at most z
abbrev pub IsLastUpTo : List ℤ → ℤ → Type 0
IsLastUpTo l z = 0 < length l → get_or l (length l - 1) (pos 0) ≤ℤ z

-- ---- conjugates

-- the conjugate of a date: numbers change their sign, Early and Never their places
abbrev pub conjugate_of : Date → Date
conjugate_of Early = Never
conjugate_of (At t) = At (pos 0 -ℤ t)
conjugate_of Never = Early

-- the conjugates in reverse
abbrev pub conjugates_reversed : List Date → List Date
conjugates_reversed l = reverse (map conjugate_of l)
