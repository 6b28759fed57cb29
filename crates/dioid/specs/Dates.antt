-- Dates, the complete max-plus dioid: minus infinity, the whole numbers, plus infinity (chapters 3 and 4).
use Rattle.std.specs.Prelude.{◌≡◌, ℕ, ℤ, pos, negsuc, zero, suc, ◌+ℤ◌, ◌-ℤ◌, ◌≤ℤ◌, FitsSigned, Result, Ok, Err, ⊤}
use Rattle.std.specs.Int.{int_max, int_min, w128}
use Rattle.dioid.specs.declared.dates.Date.{Date}
use Rattle.dioid.specs.declared.dates.Date.TheVariants.{Early, At, Never}
use Rattle.dioid.specs.declared.dates.Misfit.{Misfit}

-- a is at most b: Early stands below every number, the numbers in their order, Never above all
abbrev pub IsAtMostDate : Date → Date → Type 0
IsAtMostDate Early b = ⊤
IsAtMostDate (At s) Early = ⊥
IsAtMostDate (At s) (At t) = s ≤ℤ t
IsAtMostDate (At s) Never = ⊤
IsAtMostDate Never Early = ⊥
IsAtMostDate Never (At t) = ⊥
IsAtMostDate Never Never = ⊤

-- the later of two dates
abbrev pub later_of : Date → Date → Date
later_of Early b = b
later_of (At s) Early = At s
later_of (At s) (At t) = At (int_max s t)
later_of (At s) Never = Never
later_of Never b = Never

-- the earlier of two dates
abbrev pub earlier_of : Date → Date → Date
earlier_of Early b = Early
earlier_of (At s) Early = Early
earlier_of (At s) (At t) = At (int_min s t)
earlier_of (At s) Never = At s
earlier_of Never b = b

-- the date that comes this many units later; Early and Never stay
abbrev pub delayed : ℕ → Date → Date
delayed h Early = Early
delayed h (At s) = At (s +ℤ pos h)
delayed h Never = Never

-- the date moved by a whole number; Early and Never stay
abbrev pub move : ℤ → Date → Date
move x Early = Early
move x (At s) = At (s +ℤ x)
move x Never = Never

-- the product of two dates: they are added, Early absorbs all and Never all else
abbrev pub date_product : Date → Date → Date
date_product Early b = Early
date_product (At s) Early = Early
date_product (At s) (At t) = At (s +ℤ t)
date_product (At s) Never = Never
date_product Never Early = Early
date_product Never (At t) = Never
date_product Never Never = Never

-- a product fits unless it is one of two numbers whose sum is no i128
abbrev pub DateProductFits : Date → Date → Type 0
DateProductFits Early b = ⊤
DateProductFits (At s) Early = ⊤
DateProductFits (At s) (At t) = FitsSigned w128 (s +ℤ t)
DateProductFits (At s) Never = ⊤
DateProductFits Never b = ⊤

-- the star of a date: 0 where the date is at most 0, Never where it is above
abbrev pub date_star : Date → Date
date_star Early = At (pos 0)
date_star (At (pos zero)) = At (pos 0)
date_star (At (pos (suc n))) = Never
date_star (At (negsuc n)) = At (pos 0)
date_star Never = Never

-- the residual: the greatest x for which the product of a and x is at most b
abbrev pub date_left : Date → Date → Date
date_left Early b = Never
date_left (At s) Early = Early
date_left (At s) (At t) = At (t -ℤ s)
date_left (At s) Never = Never
date_left Never Early = Early
date_left Never (At t) = Early
date_left Never Never = Never

-- a residual fits unless it is one of two numbers whose difference is no i128
abbrev pub DateLeftFits : Date → Date → Type 0
DateLeftFits Early b = ⊤
DateLeftFits (At s) Early = ⊤
DateLeftFits (At s) (At t) = FitsSigned w128 (t -ℤ s)
DateLeftFits (At s) Never = ⊤
DateLeftFits Never b = ⊤

-- the value exactly where the operands fit, and the two dates as they were given exactly where not
abbrev pub AnswersOrMisfit : Type 0 → Date → Date → Date → Result Date Misfit → Type 0
AnswersOrMisfit fits value left right (Ok r) = (r ≡ value) × fits
AnswersOrMisfit fits value left right (Err e) = (e.left ≡ left) × (e.right ≡ right) × ¬ fits
