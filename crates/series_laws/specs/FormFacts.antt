-- What forms and the numbers in the needs are.
use Rattle.std.specs.Prelude.{◌≡◌, ◌≤◌, ◌<◌, ◌+◌, ◌-◌, ◌%◌, ℕ, ℤ, get_or}
use Rattle.dioid.specs.declared.dates.Date.{Date}
use Rattle.dioid.specs.declared.dates.Date.TheVariants.{Early}
use Rattle.dioid.specs.Dates.{move}
use Rattle.series_laws.specs.SeriesForms.{Form, size_of, repeat_start, value_at, HasValues, IsCanonical}
use Rattle.series_laws.specs.Periodic.{Rising, Repeats}
use Rattle.series_laws.specs.Needs.{common}

-- l is the least number above 0 that both a and b divide
pub record IsLeastCommon (a b l : ℕ) : Type 0 where
  pub positive : 0 < l
  pub first : l % a ≡ 0
  pub second : l % b ≡ 0
  pub least : (m : ℕ) → 0 < m → m % a ≡ 0 → m % b ≡ 0 → l ≤ m

-- the canonical form r of the function s, with a list of at most `need` values
pub record IsFormOfFunction (s : ℕ → Date) (need : ℕ) (r : Form) : Type 0 where
  pub canonical : IsCanonical r
  pub values : HasValues r s
  pub short : size_of r ≤ need

-- the function of a form has the values of its list, and past it a period adds the step; each function that never falls
-- and repeats has a canonical form, and one only; where the function of a canonical form repeats, its period divides the
-- number of shifts and its start is no later; and the common period is the least common multiple
pub record AreFormLaws : Type 0 where
  pub listed : (f : Form) (k : ℕ) → k < size_of f → value_at f k ≡ get_or f.values k Early
  pub recurs : (f : Form) → 0 < f.period → f.period ≤ size_of f → (k : ℕ) → size_of f ≤ k → value_at f k ≡ move f.step (value_at f (k - f.period))
  pub exists : (s : ℕ → Date) (p n : ℕ) (x : ℤ) → Rising s → 0 < n → Repeats s p n x → (f : Form) × IsFormOfFunction s (p + n) f
  pub unique : (f g : Form) → IsCanonical f → IsCanonical g → HasValues f (value_at g) → f ≡ g
  pub period_divides : (f : Form) → IsCanonical f → (q m : ℕ) (y : ℤ) → 0 < m → Repeats (value_at f) q m y → m % f.period ≡ 0
  pub start_least : (f : Form) → IsCanonical f → (q m : ℕ) (y : ℤ) → 0 < m → Repeats (value_at f) q m y → repeat_start f ≤ q
  pub common_is : (a b : ℕ) → 0 < a → 0 < b → IsLeastCommon a b (common a b)
