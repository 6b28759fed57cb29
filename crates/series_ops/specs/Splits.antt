-- Working definitions of the splits of a shift, some places at a time.
use Rattle.std.specs.Prelude.{◌<◌, ◌≤◌, ◌+◌, ◌-◌, ℕ, zero, suc, min}
use Rattle.std.specs.Int.RustNames.{unsigned_abs}
use Rattle.dioid.specs.Dates.{later_of, date_product}
use Rattle.dioid.specs.declared.dates.Date.{Date}
use Rattle.dioid.specs.declared.dates.Date.TheVariants.{Early}
use Rattle.series_laws.specs.SeriesForms.{Form, repeat_start, size_of, value_at}
use Rattle.series_form.specs.SeriesLimits.{greatest_value_ahead}

-- the greatest of the m values of f from p on, Early for none
abbrev pub greatest_from : (ℕ → Date) → ℕ → ℕ → Date
greatest_from f p zero = Early
greatest_from f p (suc m) = later_of (greatest_from f p m) (f (p + m))

-- the sum of the split of k whose first part is i
abbrev pub split_of : (ℕ → Date) → (ℕ → Date) → ℕ → ℕ → Date
split_of s t k i = date_product (s i) (t (k - i))

-- the greatest sum of the splits of k whose first part is at least p, Early for none
abbrev pub product_from : (ℕ → Date) → (ℕ → Date) → ℕ → ℕ → Date
product_from s t p k = greatest_from (split_of s t k) p (suc k - p)

-- how many of the n places from p on are at most k
abbrev pub places_to : ℕ → ℕ → ℕ → ℕ
places_to p n k = min n (suc k - p)

-- the greatest sum of the splits of k whose first part is in the tail of f
abbrev pub tail_product : Form → (ℕ → Date) → ℕ → Date
tail_product f t = product_from (value_at f) t (repeat_start f)

-- the later of d and of the splits of k whose first part is below p
abbrev pub with_tail : (ℕ → Date) → (ℕ → Date) → ℕ → Date → ℕ → Date
with_tail s t p d k = later_of (greatest_from (split_of s t k) 0 (places_to 0 p k)) d

-- a form with a period from 1 to its length and a step up to those between two values of a list
pub record IsTailed (f : Form) : Type 0 where
  pub positive : 0 < f.period
  pub fits : f.period ≤ size_of f
  pub step : unsigned_abs f.step ≤ greatest_value_ahead
