-- Forms: a list of values, a period and a step, with a list of any length and numbers of any size.
use Rattle.std.specs.Prelude.{◌≡◌, ◌≤◌, ◌<◌, ◌+◌, ◌-◌, ◌/◌, ◌%◌, ◌⊎◌, ℕ, ℤ, pos, zero, suc, Bool, true, false, cond, ltb, ◌&&◌, List, [], ◌∷◌, length, get_or, ◌-ℤ◌}
use Rattle.std.specs.Ordering.{int_eq}
use Rattle.dioid.specs.declared.dates.Date.{Date}
use Rattle.dioid.specs.declared.dates.Date.TheVariants.{Early, At, Never}
use Rattle.dioid.specs.Dates.{move}
use Rattle.series_laws.specs.Periodic.{Rising, times}

-- a list of values of any length, a period in shifts and a step of any size
pub record Form : Type 0 where
  pub values : List Date
  pub period : ℕ
  pub step : ℤ

-- the form of a list, a period and a step
abbrev pub form_with : List Date → ℕ → ℤ → Form
form_with l n x = record { values = l; period = n; step = x }

-- the number N of values in the list
abbrev pub size_of : Form → ℕ
size_of f = length f.values

-- the shift from which the values repeat
abbrev pub repeat_start : Form → ℕ
repeat_start f = size_of f - f.period

-- the function of a form: past the list, a period adds a step
abbrev pub value_at : Form → ℕ → Date
value_at f k = cond (ltb k (size_of f)) (get_or f.values k Early)
    (move (times ((k - repeat_start f) / f.period) f.step) (get_or f.values (repeat_start f + (k - repeat_start f) % f.period) Early))

-- the period is from 1 to N, the function never falls, and a tail of Never or Early has period 1 and step 0
pub record IsForm (f : Form) : Type 0 where
  pub period_positive : 0 < f.period
  pub period_fits : f.period ≤ size_of f
  pub rising : Rising (value_at f)
  pub tail : (value_at f (repeat_start f) ≡ Never) ⊎ (value_at f (repeat_start f) ≡ Early) → (f.period ≡ 1) × (f.step ≡ pos 0)

-- the function of the form is s
abbrev pub HasValues : Form → (ℕ → Date) → Type 0
HasValues f s = (k : ℕ) → value_at f k ≡ s k

-- the period is the least of any form of the function, and with it the list is the shortest
pub record IsCanonical (f : Form) : Type 0 where
  pub form : IsForm f
  pub least_period : (g : Form) → IsForm g → HasValues g (value_at f) → f.period ≤ g.period
  pub least_size : (g : Form) → IsForm g → HasValues g (value_at f) → g.period ≡ f.period → size_of f ≤ size_of g

-- ---- the canonical form of a function that repeats

-- whether two dates are equal
abbrev pub date_eqb : Date → Date → Bool
date_eqb Early Early = true
date_eqb Early (At t) = false
date_eqb Early Never = false
date_eqb (At s) Early = false
date_eqb (At s) (At t) = int_eq s t
date_eqb (At s) Never = false
date_eqb Never Early = false
date_eqb Never (At t) = false
date_eqb Never Never = true

-- what the second is above the first, 0 unless both are numbers
abbrev pub gap : Date → Date → ℤ
gap Early b = pos 0
gap (At s) Early = pos 0
gap (At s) (At t) = t -ℤ s
gap (At s) Never = pos 0
gap Never b = pos 0

-- the first n values of a function
abbrev pub table : (ℕ → Date) → ℕ → List Date
table f zero = []
table f (suc n) = f 0 ∷ table (λ i. f (suc i)) n

-- whether n shifts move the value at k by x
abbrev pub moves : (ℕ → Date) → ℕ → ℤ → ℕ → Bool
moves f n x k = date_eqb (f (k + n)) (move x (f k))

-- whether n shifts move the values at p, .., p + m - 1 by x
abbrev pub repeats_test : (ℕ → Date) → ℕ → ℤ → ℕ → ℕ → Bool
repeats_test f n x p zero = true
repeats_test f n x p (suc m) = repeats_test f n x p m && moves f n x (p + m)

-- the first of a, .., a + m at which the test holds, a + m if none
abbrev pub first_holding : (ℕ → Bool) → ℕ → ℕ → ℕ
first_holding t a zero = a
first_holding t a (suc m) = cond (t a) a (first_holding t (suc a) m)

-- the least number of shifts, from 1 to n, that repeats the function from p on
abbrev pub least_period_of : (ℕ → Date) → ℕ → ℕ → ℕ
least_period_of f p n = first_holding (λ i. repeats_test f i (gap (f p) (f (p + i))) p n) 1 (n - 1)

-- the least shift from which on n shifts move each value below p by x
abbrev pub least_start_of : (ℕ → Date) → ℕ → ℕ → ℤ → ℕ
least_start_of f p n x = first_holding (λ q. repeats_test f n x q (p - q)) 0 p

-- the form of the period n and the step x with the shortest list
abbrev pub shortest : (ℕ → Date) → ℕ → ℕ → ℤ → Form
shortest f p n x = record { values = table f (least_start_of f p n x + n); period = n; step = x }

-- the canonical form of f, which repeats by n shifts from p on
abbrev pub canonical_of : (ℕ → Date) → ℕ → ℕ → Form
canonical_of f p n = shortest f p (least_period_of f p n) (gap (f p) (f (p + least_period_of f p n)))

-- ---- monomials

-- Early below the shift n, the date t from there on
abbrev pub monomial_at : ℕ → ℤ → ℕ → Date
monomial_at n t k = cond (ltb k n) Early (At t)

-- ---- constant forms

-- the form of the function that is Early everywhere
abbrev pub early_form : Form
early_form = record { values = Early ∷ []; period = 1; step = pos 0 }

-- the form of the function that is 0 everywhere
abbrev pub zero_form : Form
zero_form = record { values = At (pos 0) ∷ []; period = 1; step = pos 0 }
