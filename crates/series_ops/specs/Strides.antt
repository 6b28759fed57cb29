-- Strides: so many shifts raise each value of a function by a gain at least. From where this is so on, the function is its
-- core times the star of the monomial of the stride and its gain.
use Rattle.std.specs.Prelude.{◌≡◌, ◌≤◌, ◌<◌, ◌+◌, ◌-◌, ◌⊎◌, ℕ, ℤ, cond, ltb, List, length, get_or}
use Rattle.std.specs.Int.RustNames.{unsigned_abs}
use Rattle.dioid.specs.declared.dates.Date.{Date}
use Rattle.dioid.specs.declared.dates.Date.TheVariants.{Early}
use Rattle.dioid.specs.Dates.{later_of, move}
use Rattle.dioid.specs.DateOrder.{Le}
use Rattle.series_laws.specs.Periodic.{Repeats}
use Rattle.series_laws.specs.SeriesForms.{Form, size_of, repeat_start, value_at}
use Rattle.series_form.specs.SeriesLimits.{greatest_value}
use Rattle.series_ops.specs.declared.strides.Stride.{Stride}
use Rattle.series_ops.specs.ListFunctions.{value_listed}

-- from p on, n shifts raise a value by x at least
pub record Gains (f : ℕ → Date) (p n : ℕ) (x : ℤ) : Type 0 where
  pub at : (k : ℕ) → p ≤ k → Le (move x (f k)) (f (k + n))

-- of the first m values of the list, those from p on are raised by x at least n places later
abbrev pub AreRaised : List Date → ℕ → ℕ → ℕ → ℤ → Type 0
AreRaised l p m n x = (k : ℕ) → p ≤ k → k < m → Le (move x (get_or l k Early)) (get_or l (k + n) Early)

-- the value at k is the one n shifts before, moved by x, and both are from p on
pub record IsMovedOn (f : ℕ → Date) (p n : ℕ) (x : ℤ) (k : ℕ) : Type 0 where
  pub past : p + n ≤ k
  pub moved : f k ≡ move x (f (k - n))

-- d is the value of the core at k: that of f, or Early where that is moved on
abbrev pub IsCoreAt : (ℕ → Date) → ℕ → ℕ → ℤ → ℕ → Date → Type 0
IsCoreAt f p n x k d = (d ≡ f k) ⊎ (IsMovedOn f p n x k × (d ≡ Early))

-- a stride of some turns of the period, which serves at the latest from the start of the form on
pub record IsStride (f : Form) (stride : Stride) : Type 0 where
  pub shifts : 0 < stride.shifts
  pub short : stride.shifts ≤ size_of f
  pub from : stride.from ≤ repeat_start f
  pub gain : unsigned_abs stride.gain ≤ greatest_value
  pub again : Repeats (value_at f) (repeat_start f) stride.shifts stride.gain
  pub gains : Gains (value_at f) stride.from stride.shifts stride.gain

-- the first m values of l are those of the core of f
abbrev pub AreCore : (ℕ → Date) → Stride → List Date → ℕ → Type 0
AreCore f stride l m = (k : ℕ) → k < m → IsCoreAt f stride.from stride.shifts stride.gain k (value_listed l k)

-- l is the core of the form, which is Early past it
pub record IsCore (f : Form) (stride : Stride) (l : List Date) : Type 0 where
  pub is_stride : IsStride f stride
  pub size : length l ≡ repeat_start f + stride.shifts
  pub at : (k : ℕ) → IsCoreAt (value_at f) stride.from stride.shifts stride.gain k (value_listed l k)

-- the value at j of the product of t and the star of the monomial of shift n and date x, from its values v before
abbrev pub star_sum_at : (ℕ → Date) → (ℕ → Date) → ℕ → ℤ → ℕ → Date
star_sum_at t v n x j = cond (ltb j n) (t j) (later_of (t j) (move x (v (j - n))))

-- v is that product below m
abbrev pub IsStarSums : (ℕ → Date) → (ℕ → Date) → ℕ → ℤ → ℕ → Type 0
IsStarSums t v n x m = (j : ℕ) → j < m → v j ≡ star_sum_at t v n x j
