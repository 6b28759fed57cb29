-- The residual by its first values.
use Rattle.std.proofs.Common.{◌≡◌, refl, ap, arith, ℕ, zero, suc, ◌+◌, ◌*◌, ◌-◌, ◌≤◌, sym, ◌∙◌, subst, ◌-ℤ◌, inl, List}
use Rattle.dioid.specs.Dates.{date_left}
use Rattle.dioid.specs.declared.dates.Date.{Date}
use Rattle.dioid.specs.declared.dates.Date.TheVariants.{Early, At, Never}
use Rattle.series_laws.specs.declared.plans.NeedPlan.{NeedPlan}
use Rattle.series_laws.specs.declared.plans.Slopes.{Slopes}
use Rattle.series_laws.specs.declared.plans.Slopes.TheVariants.{Equal, First, Second}
use Rattle.dioid.specs.DateOrder.{Le}
use Rattle.dioid.proofs.AtMost.{le_is, le_trans, le_antisym}
use Rattle.series_laws.specs.SeriesForms.{Form, size_of, value_at, table, IsForm, HasValues}
use Rattle.series_form.specs.NumberBounds.{IsMagnitudeUpTo, IsSeries}
use Rattle.series_laws.specs.Needs.{need_of, tail_of, slopes_of, slopes_by, common, period_with, rise_of, fall_of}
use Rattle.series_laws.proofs.Sums.{Serves}
use Rattle.series_form.proofs.DateNumbers.{abs_difference}
use Rattle.series_form.proofs.Finished.{IsTabled, up_to_more, value_up_to}
use Rattle.series_form.proofs.PointwiseTables.{earlier_up_to}
use Rattle.series_ops.specs.ListFunctions.{AreUpTo, all_but_last, last_value}
use Rattle.series_laws.specs.Residual.{IsLeftAt, least_of_first}
use Rattle.series_laws.proofs.ResidualsRepeat.{least_of_le, le_least_of}
use Rattle.series_laws.specs.ProductNeeds.{offsets_of, left_over, left_by_slopes, left_by, residual_at, left_plan, left_plan_by, left_plan_by_slopes, long_left}
use Rattle.series_laws.proofs.Lefts.{left_is, left_rises, left_serves}
use Rattle.series_form.specs.SeriesLimits.{greatest_value, greatest_value_far_ahead, greatest_listed}
use Rattle.series_ops.proofs.FirstValues.{listed_tabled, all_up_to}

-- ---- lists of two series

pub long_value_up_to : (f : Form) → IsSeries f → (k : ℕ) → k ≤ 60001 → IsMagnitudeUpTo greatest_value_far_ahead (value_at f k)
long_value_up_to f h k w = up_to_more (greatest_value + 60001 * greatest_value) greatest_value_far_ahead (value_at f k) (omega arith) (value_up_to f h k 60001 w)

pub long_table_up_to : (f : Form) (n : ℕ) (l : List Date) → IsSeries f → n ≤ 60001 → l ≡ table (value_at f) n → AreUpTo greatest_value_far_ahead l
long_table_up_to f n l h short e = all_up_to greatest_value_far_ahead (value_at f) n l e (λ k w. long_value_up_to f h k (omega arith))

least_half : (f g : ℕ → Date) (n : ℕ) → ((i : ℕ) → i ≤ n → f i ≡ g i) → Le (least_of_first f n) (least_of_first g n)
least_half f g n h = le_least_of g n (least_of_first f n) (λ j w. le_trans (least_of_le f n j w) (le_is (h j w)))

pub least_same : (f g : ℕ → Date) (n : ℕ) → ((i : ℕ) → i ≤ n → f i ≡ g i) → least_of_first f n ≡ least_of_first g n
least_same f g n h = le_antisym (least_half f g n h) (least_half g f n (λ i w. sym (h i w)))

-- ---- how great a residual is

left_up_to : (m : ℕ) (a b : Date) → IsMagnitudeUpTo m a → IsMagnitudeUpTo m b → IsMagnitudeUpTo (m + m) (date_left a b)
left_up_to m Early b h k = tt
left_up_to m (At s) Early h k = tt
left_up_to m (At s) (At t) h k = abs_difference t s m m k h
left_up_to m (At s) Never h k = tt
left_up_to m Never Early h k = tt
left_up_to m Never (At t) h k = tt
left_up_to m Never Never h k = tt

least_up_to : (f : ℕ → Date) (n m : ℕ) → ((i : ℕ) → i ≤ n → IsMagnitudeUpTo m (f i)) → IsMagnitudeUpTo m (least_of_first f n)
least_up_to f zero m h = h 0 (omega arith)
least_up_to f (suc n) m h = earlier_up_to m (least_of_first f n) (f (suc n)) (least_up_to f n m (λ i w. h i (omega arith))) (h (suc n) (omega arith))

pub over_up_to : (f g : Form) → IsSeries f → IsSeries g → offsets_of f g ≤ 40000 → (k : ℕ) → k ≤ 20000 → IsMagnitudeUpTo greatest_listed (left_over f g k)
over_up_to f g sf sg few k w = least_up_to (λ i. date_left (value_at f i) (value_at g (k + i))) (offsets_of f g - 1) greatest_listed (λ i u.
    up_to_more (greatest_value_far_ahead + greatest_value_far_ahead) greatest_listed (date_left (value_at f i) (value_at g (k + i))) (omega arith)
    (left_up_to greatest_value_far_ahead (value_at f i) (value_at g (k + i)) (long_value_up_to f sf i (omega arith)) (long_value_up_to g sg (k + i) (omega arith))))

-- ---- the offsets are few where the need is short

common_one : (f g : Form) → g.period ≡ 1 → period_with f g ≡ f.period
common_one f g e = ap (λ (z : ℕ). common f.period z) e ∙ one_turn f.period where
  one_turn : (a : ℕ) → common a 1 ≡ a
  one_turn a = let u : 1 * a ≡ a = omega arith in u

pub few_offsets : (f g : Form) → IsSeries f → IsSeries g → (tail_of f ≡ Early → ⊥) → (slopes_of f g ≡ First → ⊥) → need_of (left_plan f g) ≤ 20000 → offsets_of f g ≤ 40000
few_offsets f g sf sg late gentle short = cases (tail_of f) (tail_of g) refl refl late gentle short where
  long : need_of (long_left f g) ≤ 20000 → offsets_of f g ≤ 40000
  long h = let u : g.period ≤ size_of g = sg.canonical.form.period_fits in omega arith

  by_slopes : (o : Slopes) → (o ≡ First → ⊥) → need_of (left_plan_by_slopes o f g) ≤ 20000 → offsets_of f g ≤ 40000
  by_slopes Equal h k = long k
  by_slopes First h k = absurd (h refl)
  by_slopes Second h k = long k

  cases : (a b : Date) → tail_of f ≡ a → tail_of g ≡ b → (a ≡ Early → ⊥) → (slopes_by a b (rise_of f g -ℤ fall_of f g) ≡ First → ⊥) → need_of (left_plan_by a b f g) ≤ 20000 → offsets_of f g ≤ 40000
  cases Early b ea eb h k w = absurd (h refl)
  cases (At s) Early ea eb h k w = absurd (k refl)
  cases (At s) (At t) ea eb h k w = by_slopes (slopes_of f g) gentle w
  cases (At s) Never ea eb h k w =
      let one : g.period ≡ 1 = (sg.canonical.form.tail (inl eb)).0 in
      let l : period_with f g ≡ f.period = common_one f g one in
      let a : size_of f ≤ 20000 = sf.short in
      let b : size_of g ≤ 20000 = sg.short in
      let c : f.period ≤ size_of f = sf.canonical.form.period_fits in
      omega arith
  cases Never Early ea eb h k w = absurd (k refl)
  cases Never (At t) ea eb h k w = absurd (k refl)
  cases Never Never ea eb h k w = long w

-- ---- the cases

pub early_left : (f g : Form) → tail_of f ≡ Early → residual_at f g ≡ (λ _. Never)
early_left f g e = ap (λ (z : Date). left_by z f g) e

pub late_left : (f g : Form) → (tail_of f ≡ Early → ⊥) → residual_at f g ≡ left_by_slopes (slopes_of f g) f g
late_left f g h = cases (tail_of f) h where
  cases : (a : Date) → (a ≡ Early → ⊥) → left_by a f g ≡ left_by_slopes (slopes_of f g) f g
  cases Early k = absurd (k refl)
  cases (At s) k = refl
  cases Never k = refl

pub steep_left : (f g : Form) → slopes_of f g ≡ First → left_by_slopes (slopes_of f g) f g ≡ (λ _. Early)
steep_left f g e = ap (λ (z : Slopes). left_by_slopes z f g) e

pub gentle_left : (f g : Form) → (slopes_of f g ≡ First → ⊥) → left_by_slopes (slopes_of f g) f g ≡ left_over f g
gentle_left f g h = cases (slopes_of f g) h where
  cases : (o : Slopes) → (o ≡ First → ⊥) → left_by_slopes o f g ≡ left_over f g
  cases Equal k = refl
  cases First k = absurd (k refl)
  cases Second k = refl

bounded : (f g : Form) → IsSeries f → IsSeries g → need_of (left_plan f g) ≤ 20000 → (k : ℕ) → k ≤ 20000 → IsMagnitudeUpTo greatest_listed (residual_at f g k)
bounded f g sf sg short k w = by_tail (tail_of f) refl where
  by_slopes : (tail_of f ≡ Early → ⊥) → (o : Slopes) → slopes_of f g ≡ o → IsMagnitudeUpTo greatest_listed (left_by_slopes o f g k)
  by_slopes late Equal e = over_up_to f g sf sg (few_offsets f g sf sg late (λ h. absurd (let c : Equal ≡ First = sym e ∙ h in cc)) short) k w
  by_slopes late First e = tt
  by_slopes late Second e = over_up_to f g sf sg (few_offsets f g sf sg late (λ h. absurd (let c : Second ≡ First = sym e ∙ h in cc)) short) k w

  by_tail : (a : Date) → tail_of f ≡ a → IsMagnitudeUpTo greatest_listed (left_by a f g k)
  by_tail Early e = tt
  by_tail (At s) e = by_slopes (λ h. absurd (let c : At s ≡ Early = sym e ∙ h in cc)) (slopes_of f g) refl
  by_tail Never e = by_slopes (λ h. absurd (let c : Never ≡ Early = sym e ∙ h in cc)) (slopes_of f g) refl

pub left_tabled : (f g : Form) (r : NeedPlan) (l : List Date) → IsSeries f → IsSeries g → r ≡ left_plan f g → need_of r ≤ 20000
    → l ≡ table (residual_at f g) (need_of r + 1) → IsTabled (residual_at f g) r (all_but_last l) (last_value l)
left_tabled f g r l sf sg e short items = listed_tabled (residual_at f g) r l
    (left_rises f g sf.canonical.form sg.canonical.form)
    (subst (λ (z : NeedPlan). Serves (residual_at f g) z) (sym e) (left_serves f g sf.canonical.form sg.canonical.form))
    items (λ k w. bounded f g sf sg (subst (λ (z : NeedPlan). need_of z ≤ 20000) e short) k (omega arith))

-- the values of the code's residual are the residuals of the definition, and no others are
pub has_residuals : (f g r : Form) → IsForm f → IsForm g → HasValues r (residual_at f g) → (k : ℕ) → IsLeftAt (value_at f) (value_at g) k (value_at r k)
has_residuals f g r isf isg h k = subst (λ (z : Date). IsLeftAt (value_at f) (value_at g) k z) (sym (h k)) (left_is f g isf isg k)
