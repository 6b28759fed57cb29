-- Settled forms: past some number the dates go on by a fixed step in each period (chapter 3, cyclicity).
use Rattle.std.specs.Prelude.{ℕ, ℤ, pos, ◌+◌, ◌-◌, ◌*◌, ◌/◌, ◌*ℤ◌, ◌<◌, ◌≤◌, ◌≡◌, ◌⊎◌, List, [], length, All, slice_index_or, nat_le, if◌then◌else◌}
use Rattle.teg_model.specs.dioid.declared.dates.Date.{Date}
use Rattle.teg_model.specs.dioid.declared.dates.Date.TheVariants.{Early, Never}
use Rattle.teg_model.specs.dioid.Dates.{IsAtMostDate, move}
use Rattle.teg_model.specs.teg_net.Nets.{NetLists}
use Rattle.teg_model.specs.Datings.{IsLeastDating}

-- past `after` the dates of each of the first `count` transitions go on by its step in each period
pub record RepeatsAfter (count : ℕ) (x : ℕ → ℕ → Date) (after period : ℕ) (step : ℕ → ℤ) : Type 0 where
  pub at_least_one : 1 ≤ period
  pub again : (t k : ℕ) → t < count → after < k → x t (k + period) ≡ move (step t) (x t k)

-- the dates of the first period past `after` are all this date
abbrev pub IsTail : (ℕ → Date) → ℕ → ℕ → Date → Type 0
IsTail dates after period d = (k : ℕ) → after < k → k ≤ after + period → dates k ≡ d

-- a number, a period, and for each transition its dates from number 1 on and a step
pub record SettledForm : Type 0 where
  pub after : ℕ
  pub period : ℕ
  pub rows : List (List Date)
  pub steps : List ℤ

-- how many dates of each transition a form has
abbrev pub settled_length : SettledForm → ℕ
settled_length f = f.after + f.period

-- the dates of a transition
abbrev pub row_of : SettledForm → ℕ → List Date
row_of f t = slice_index_or f.rows t []

-- the step of a transition
abbrev pub step_of_form : SettledForm → ℕ → ℤ
step_of_form f t = slice_index_or f.steps t (pos 0)

-- the date of number k, one of those that the form has
abbrev pub row_date : SettledForm → ℕ → ℕ → Date
row_date f t k = slice_index_or (row_of f t) (k - 1) Early

-- how many periods lead from number k back among the dates that the form has
abbrev pub periods_past : SettledForm → ℕ → ℕ
periods_past f k = (k - settled_length f - 1) / f.period + 1

-- the date of number k past those that the form has: that of so many periods before, moved by as many steps
abbrev pub settled_date_past : SettledForm → ℕ → ℕ → Date
settled_date_past f t k = move (pos (periods_past f k) *ℤ step_of_form f t) (row_date f t (k - periods_past f k * f.period))

-- the date of number k that the form tells, for every k
abbrev pub settled_date : SettledForm → ℕ → ℕ → Date
settled_date f t k = if nat_le k (settled_length f) then row_date f t k else settled_date_past f t k

-- a period of at least 1, and for each of `count` transitions a step and the dates of numbers 1 to `after + period`
pub record HasSizes (count : ℕ) (f : SettledForm) : Type 0 where
  pub at_least_one : 1 ≤ f.period
  pub rows_are : length f.rows ≡ count
  pub steps_are : length f.steps ≡ count
  pub full : All (λ row. length row ≡ settled_length f) f.rows

-- the form has the dates of x, which go on as it says, and a step is 0 where the last dates are all Never or all Early
pub record StandsFor (count : ℕ) (f : SettledForm) (x : ℕ → ℕ → Date) : Type 0 where
  pub sizes : HasSizes count f
  pub dates : (t k : ℕ) → t < count → 1 ≤ k → k ≤ settled_length f → row_date f t k ≡ x t k
  pub repeats : RepeatsAfter count x f.after f.period (step_of_form f)
  pub still : (t : ℕ) → t < count → IsTail (x t) f.after f.period Never ⊎ IsTail (x t) f.after f.period Early → step_of_form f t ≡ pos 0

-- no smaller number and no smaller period will do
pub record IsShortestForm (count : ℕ) (f : SettledForm) (x : ℕ → ℕ → Date) : Type 0 where
  pub stands : StandsFor count f x
  pub least_period : (k p : ℕ) (s : ℕ → ℤ) → RepeatsAfter count x k p s → f.period ≤ p
  pub least_after : (k p : ℕ) (s : ℕ → ℤ) → RepeatsAfter count x k p s → f.after ≤ k

-- the least length of a form that stands for x
pub record IsSettlingLength (count : ℕ) (x : ℕ → ℕ → Date) (long : ℕ) : Type 0 where
  pub attained : (f : SettledForm) × StandsFor count f x × (settled_length f ≡ long)
  pub least : (f : SettledForm) → StandsFor count f x → long ≤ settled_length f

-- each form that stands for x is longer than this
abbrev pub SettlesPast : ℕ → (ℕ → ℕ → Date) → ℕ → Type 0
SettlesPast count x limit = (f : SettledForm) → StandsFor count f x → limit < settled_length f

-- dates never fall from one number to the next
abbrev pub NeverFalls : ℕ → (ℕ → ℕ → Date) → Type 0
NeverFalls count x = (t k : ℕ) → t < count → 1 ≤ k → IsAtMostDate (x t k) (x t (k + 1))

-- the shortest form that stands for the least dating of the net
abbrev pub IsSettledFormOf : NetLists → SettledForm → Type 0
IsSettledFormOf net f = (x : ℕ → ℕ → Date) × IsLeastDating net x × IsShortestForm (length net.transitions) f x

-- the least dating of the net has no form of at most this length
abbrev pub NetSettlesPast : NetLists → ℕ → Type 0
NetSettlesPast net limit = (x : ℕ → ℕ → Date) × IsLeastDating net x × SettlesPast (length net.transitions) x limit
