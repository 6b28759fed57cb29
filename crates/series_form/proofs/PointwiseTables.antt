-- The sum and the minimum by their first values.
use Rattle.std.proofs.Common.{◌≡◌, ◌≤◌, ◌+◌, ◌*◌, ℕ, ℤ, arith, sym, subst, List, ⊎_elim, ◌⊎◌}
use Rattle.std.specs.Int.{int_max, int_min}
use Rattle.std.specs.Int.RustNames.{unsigned_abs}
use Rattle.std.proofs.lemmas.Int.{ints, clamps}
use Rattle.dioid.specs.Dates.{later_of, earlier_of}
use Rattle.dioid.specs.declared.dates.Date.{Date}
use Rattle.dioid.specs.declared.dates.Date.TheVariants.{Early, At, Never}
use Rattle.series_laws.specs.declared.plans.NeedPlan.{NeedPlan}
use Rattle.series_laws.specs.SeriesForms.{Form, value_at, table}
use Rattle.series_form.specs.NumberBounds.{IsMagnitudeUpTo, IsSeries}
use Rattle.series_laws.specs.Pointwise.{sum_at, least_at}
use Rattle.series_laws.specs.Needs.{need_of, sum_plan, least_plan}
use Rattle.series_laws.proofs.Sums.{Serves, sum_rises, least_rises, sum_serves, least_serves}
use Rattle.series_form.specs.SeriesLimits.{greatest_value, greatest_value_ahead, greatest_listed}
use Rattle.series_form.proofs.Finished.{IsTabled, value_up_to, up_to_more}

pub max_up_to : (s t : ℤ) (m : ℕ) → unsigned_abs s ≤ m → unsigned_abs t ≤ m → unsigned_abs (int_max s t) ≤ m
max_up_to s t m h k = ⊎_elim (λ e. rw e h) (λ e. rw e k) (one_of s t) where
  one_of : (s t : ℤ) → (int_max s t ≡ s) ⊎ (int_max s t ≡ t)
  one_of s t = grind (arith, ints, clamps)

min_up_to : (s t : ℤ) (m : ℕ) → unsigned_abs s ≤ m → unsigned_abs t ≤ m → unsigned_abs (int_min s t) ≤ m
min_up_to s t m h k = ⊎_elim (λ e. rw e h) (λ e. rw e k) (one_of s t) where
  one_of : (s t : ℤ) → (int_min s t ≡ s) ⊎ (int_min s t ≡ t)
  one_of s t = grind (arith, ints, clamps)

pub later_up_to : (m : ℕ) (a b : Date) → IsMagnitudeUpTo m a → IsMagnitudeUpTo m b → IsMagnitudeUpTo m (later_of a b)
later_up_to m Early b h k = k
later_up_to m (At s) Early h k = h
later_up_to m (At s) (At t) h k = max_up_to s t m h k
later_up_to m (At s) Never h k = tt
later_up_to m Never b h k = tt

pub earlier_up_to : (m : ℕ) (a b : Date) → IsMagnitudeUpTo m a → IsMagnitudeUpTo m b → IsMagnitudeUpTo m (earlier_of a b)
earlier_up_to m Early b h k = tt
earlier_up_to m (At s) Early h k = tt
earlier_up_to m (At s) (At t) h k = min_up_to s t m h k
earlier_up_to m (At s) Never h k = h
earlier_up_to m Never b h k = k

-- a value of a series at a shift that a list may have
pub listed_up_to : (f : Form) → IsSeries f → (k : ℕ) → k ≤ 20000 → IsMagnitudeUpTo greatest_value_ahead (value_at f k)
listed_up_to f h k w = up_to_more (greatest_value + 20000 * greatest_value) greatest_value_ahead (value_at f k) (omega arith) (value_up_to f h k 20000 w)

pub sum_tabled : (f g : Form) (r : NeedPlan) (l : List Date) (next : Date) → IsSeries f → IsSeries g → r ≡ sum_plan f g → need_of r ≤ 20000
    → l ≡ table (sum_at (value_at f) (value_at g)) (need_of r) → next ≡ sum_at (value_at f) (value_at g) (need_of r) → IsTabled (sum_at (value_at f) (value_at g)) r l next
sum_tabled f g r l next sf sg e short items last = record {
  rising = sum_rises (value_at f) (value_at g) sf.canonical.form.rising sg.canonical.form.rising;
  serves = subst (λ (z : NeedPlan). Serves (sum_at (value_at f) (value_at g)) z) (sym e) (sum_serves f g sf.canonical.form sg.canonical.form);
  values = items;
  next_is = last;
  bounded = λ k w. up_to_more greatest_value_ahead greatest_listed (sum_at (value_at f) (value_at g) k) (omega arith)
      (later_up_to greatest_value_ahead (value_at f k) (value_at g k) (listed_up_to f sf k (omega arith)) (listed_up_to g sg k (omega arith)));
}

pub least_tabled : (f g : Form) (r : NeedPlan) (l : List Date) (next : Date) → IsSeries f → IsSeries g → r ≡ least_plan f g → need_of r ≤ 20000
    → l ≡ table (least_at (value_at f) (value_at g)) (need_of r) → next ≡ least_at (value_at f) (value_at g) (need_of r) → IsTabled (least_at (value_at f) (value_at g)) r l next
least_tabled f g r l next sf sg e short items last = record {
  rising = least_rises (value_at f) (value_at g) sf.canonical.form.rising sg.canonical.form.rising;
  serves = subst (λ (z : NeedPlan). Serves (least_at (value_at f) (value_at g)) z) (sym e) (least_serves f g sf.canonical.form sg.canonical.form);
  values = items;
  next_is = last;
  bounded = λ k w. up_to_more greatest_value_ahead greatest_listed (least_at (value_at f) (value_at g) k) (omega arith)
      (earlier_up_to greatest_value_ahead (value_at f k) (value_at g k) (listed_up_to f sf k (omega arith)) (listed_up_to g sg k (omega arith)));
}
