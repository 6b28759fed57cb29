-- The residual by greatest sums, at the shifts of the second list and past it.
use Rattle.std.proofs.Common.{◌≡◌, refl, ap, arith, ℕ, ℤ, pos, ◌+◌, ◌-◌, ◌≤◌, ◌<◌, ◌-ℤ◌, sym, ◌∙◌, subst, List, length, get_or, to_z, of_z}
use Rattle.std.specs.Int.RustNames.{unsigned_abs}
use Rattle.std.specs.Int.{w128}
use Rattle.std.proofs.lemmas.Int.{ints, to_z-of_z}
use Rattle.dioid.specs.Dates.{date_product, date_left, move}
use Rattle.dioid.specs.declared.dates.Date.{Date}
use Rattle.dioid.specs.declared.dates.Date.TheVariants.{Early, At, Never}
use Rattle.dioid.proofs.AtMost.{le_antisym}
use Rattle.series_laws.specs.Periodic.{Repeats}
use Rattle.series_laws.proofs.Repeating.{repeats_from}
use Rattle.series_laws.specs.SeriesForms.{Form, size_of, repeat_start, value_at, table, IsForm}
use Rattle.series_laws.proofs.FormValues.{table_length}
use Rattle.series_form.specs.NumberBounds.{IsSeries}
use Rattle.series_laws.specs.Needs.{period_with}
use Rattle.series_laws.specs.Product.{product_at}
use Rattle.series_laws.proofs.Sums.{common_positive, form_repeats_own}
use Rattle.series_form.proofs.DateNumbers.{abs_difference, small_fits}
use Rattle.series_ops.specs.Cells.{conjugate_of, conjugates_reversed}
use Rattle.series_ops.specs.ListFunctions.{value_listed, AreUpTo}
use Rattle.series_laws.specs.Residual.{IsLeftAt, least_of_first}
use Rattle.series_laws.proofs.ResidualsRepeat.{least_of_le, le_least_of, left_repeats}
use Rattle.series_laws.specs.ProductNeeds.{offsets_of, left_over, residual_at, OffsetsDecide}
use Rattle.series_laws.proofs.Lefts.{left_is}
use Rattle.series_form.specs.SeriesLimits.{greatest_value, greatest_listed}
use Rattle.series_ops.proofs.FirstValues.{listed_is, all_up_to}
use Rattle.series_ops.proofs.LeftSplits.{least_conjugate, left_of_conjugate, turned_at, turned_length}
use Rattle.series_ops.proofs.LeftValues.{least_same, late_left, gentle_left, over_up_to}

pub left_by_number : (x : ℤ) (d : Date) → date_left (At (pos 0 -ℤ x)) d ≡ move x d
left_by_number x Early = refl
left_by_number x (At t) = ap At (omega (arith, ints))
left_by_number x Never = refl

module _ (f g : Form) (isf : IsForm f) (isg : IsForm g) (decide : OffsetsDecide f g) where
  same : residual_at f g ≡ left_over f g
  same = late_left f g decide.late ∙ gentle_left f g decide.gentle

  over_is : (k : ℕ) → IsLeftAt (value_at f) (value_at g) k (left_over f g k)
  over_is k = subst (λ (z : ℕ → Date). IsLeftAt (value_at f) (value_at g) k (z k)) same (left_is f g isf isg k)

  pub over_again : Repeats (left_over f g) (repeat_start g) g.period g.step
  over_again = subst (λ (z : ℕ → Date). Repeats z (repeat_start g) g.period g.step) same
      (left_repeats (value_at f) (value_at g) (residual_at f g) (repeat_start g) g.period g.step (left_is f g isf isg) (form_repeats_own g isg))

  -- the least residual at a shift is the conjugate of the greatest sum with the conjugates, in reverse
  pub left_by_sums : (s : List Date) (m k : ℕ) → conjugates_reversed s ≡ table (value_at g) m → k + offsets_of f g ≤ m
      → conjugate_of (product_at (value_at f) (value_listed s) (m - 1 - k)) ≡ left_over f g k
  left_by_sums s m k e w =
      let size : length s ≡ m = sym (turned_length s) ∙ ap length e ∙ table_length (value_at g) m in
      let some : 0 < period_with f g = common_positive f.period g.period isf.period_positive in
      let parts : ℕ → Date = λ i. date_left (value_at f i) (value_at g (k + i)) in
      let last : offsets_of f g - 1 ≤ m - 1 - k = omega arith in
      sym (least_conjugate (λ i. date_product (value_at f i) (value_listed s (m - 1 - k - i))) (m - 1 - k))
      ∙ least_same (λ i. conjugate_of (date_product (value_at f i) (value_listed s (m - 1 - k - i)))) parts (m - 1 - k) (λ i u.
      let there : length s - 1 - (k + i) ≡ m - 1 - k - i = omega arith in
      sym (left_of_conjugate (value_at f i) (value_listed s (m - 1 - k - i)))
      ∙ ap (λ (z : ℕ). date_left (value_at f i) (conjugate_of (value_listed s z))) (sym there)
      ∙ ap (date_left (value_at f i)) (sym (turned_at s (k + i) (omega arith)) ∙ listed_is (value_at g) m (conjugates_reversed s) e (k + i) (omega arith)))
      ∙ le_antisym
      (le_least_of parts (offsets_of f g - 1) (least_of_first parts (m - 1 - k)) (λ i u. least_of_le parts (m - 1 - k) i (omega arith)))
      (le_least_of parts (m - 1 - k) (left_over f g k) (λ i u. (over_is k).below i))

  -- past the list of the second form by its period
  pub left_later_is : (m : List Date) (k : ℕ) → m ≡ table (left_over f g) k → size_of g ≤ k → date_left (At (pos 0 -ℤ g.step)) (get_or m (k - g.period) Early) ≡ left_over f g k
  left_later_is m k em w =
      let fits : g.period ≤ size_of g = isg.period_fits in
      left_by_number g.step (get_or m (k - g.period) Early)
      ∙ ap (move g.step) (listed_is (left_over f g) k m em (k - g.period) (omega (arith, isg.period_positive)))
      ∙ sym (repeats_from over_again k (omega arith))

-- ---- bounds

-- the values of the residual that a list may have
pub overs_up_to : (f g : Form) → IsSeries f → IsSeries g → offsets_of f g ≤ 40000 → (n : ℕ) (l : List Date) → n ≤ 20001 → l ≡ table (left_over f g) n → AreUpTo greatest_listed l
overs_up_to f g sf sg few n l short e = all_up_to greatest_listed (left_over f g) n l e (λ k w. over_up_to f g sf sg few k (omega arith))

-- the negative of a step, as the code computes it
pub negative_code : (b x : ℤ) → b ≡ x → unsigned_abs x ≤ greatest_value → to_z w128 (of_z w128 (pos 0 -ℤ to_z w128 (of_z w128 b))) ≡ pos 0 -ℤ x
negative_code b x e h =
    let same : to_z w128 (of_z w128 b) ≡ x = ap (λ (z : ℤ). to_z w128 (of_z w128 z)) e ∙ to_z-of_z w128 x (small_fits x h) in
    let low : unsigned_abs (pos 0 -ℤ x) ≤ 0 + greatest_value = abs_difference (pos 0) x 0 greatest_value (omega arith) h in
    ap (λ (z : ℤ). to_z w128 (of_z w128 (pos 0 -ℤ z))) same ∙ to_z-of_z w128 (pos 0 -ℤ x) (small_fits (pos 0 -ℤ x) (omega arith))
