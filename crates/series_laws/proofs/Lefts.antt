-- The residual of forms is a form of the need.
use Rattle.std.proofs.Common.{◌≡◌, refl, ap, arith, ℕ, ℤ, pos, negsuc, zero, suc, max, ◌+◌, ◌*◌, ◌-◌, ◌≤◌, ◌<◌, ◌+ℤ◌, ◌-ℤ◌, sym, ◌∙◌, subst}
use Rattle.std.specs.Prelude.{◌≤ℤ◌}
use Rattle.std.proofs.lemmas.Int.{ints}
use Rattle.dioid.specs.Dates.{date_left, move}
use Rattle.dioid.specs.declared.dates.Date.{Date}
use Rattle.dioid.specs.declared.dates.Date.TheVariants.{Early, At, Never}
use Rattle.dioid.specs.DateOrder.{Le}
use Rattle.dioid.proofs.AtMost.{le_refl, le_is, le_trans, early_le, le_never}
use Rattle.series_laws.specs.Periodic.{Rising, Repeats, times}
use Rattle.series_laws.proofs.Repeating.{repeats_later, repeats_times, repeats_is}
use Rattle.series_laws.specs.Residual.{IsLeftAt, least_of_first}
use Rattle.series_laws.proofs.ResidualsRepeat.{left_repeats, left_decided}
use Rattle.series_laws.specs.SeriesForms.{Form, size_of, repeat_start, value_at, IsForm, HasValues, IsCanonical}
use Rattle.series_laws.specs.declared.plans.Slopes.{Slopes}
use Rattle.series_laws.specs.declared.plans.Slopes.TheVariants.{Equal, First, Second}
use Rattle.series_laws.specs.Needs.{plan, period_with, rise_of, fall_of, tail_of, by_sign, slopes_by, slopes_of, later_start}
use Rattle.series_laws.specs.ProductNeeds.{offsets_of, left_over, left_by_slopes, left_by, residual_at, long_left, short_left, left_plan_by_slopes, left_plan_by, left_plan, form_left}
use Rattle.series_laws.proofs.Sums.{Serves, served_is, served_values, form_repeats_own, common_positive, rise_repeats, fall_repeats, tail_never, tail_early, tail_number, sign_first, equal_repeats}

pub left_mono : {b c : Date} (a : Date) → Le b c → Le (date_left a b) (date_left a c)
left_mono {b} {c} Early h = le_refl Never
left_mono {b = Early} {c} (At s) h = early_le (date_left (At s) c)
left_mono {b = At t} {c = Early} (At s) h = absurd h.holds
left_mono {b = At t} {c = At u} (At s) h = record { holds = let k : t ≤ℤ u = h.holds in omega (arith, ints) }
left_mono {b = At t} {c = Never} (At s) h = le_never (date_left (At s) (At t))
left_mono {b = Never} {c = Early} (At s) h = absurd h.holds
left_mono {b = Never} {c = At u} (At s) h = absurd h.holds
left_mono {b = Never} {c = Never} (At s) h = le_refl Never
left_mono {b = Early} {c} Never h = early_le (date_left Never c)
left_mono {b = At t} {c} Never h = early_le (date_left Never c)
left_mono {b = Never} {c = Early} Never h = absurd h.holds
left_mono {b = Never} {c = At u} Never h = absurd h.holds
left_mono {b = Never} {c = Never} Never h = le_refl Never

-- where some residual is Early
early_below : (s t : ℕ → Date) (k i : ℕ) → date_left (s i) (t (k + i)) ≡ Early → IsLeftAt s t k Early
early_below s t k i e = record { below = λ j. early_le (date_left (s j) (t (k + j))); greatest = λ y h. le_trans (h i) (le_is e) }

never_below : (s t : ℕ → Date) (k : ℕ) → ((i : ℕ) → s i ≡ Early) → IsLeftAt s t k Never
never_below s t k h = record { below = λ j. le_is (sym (ap (λ z. date_left z (t (k + j))) (h j))); greatest = λ y _. le_never y }

-- at most z, which is below 0, a number of times
falls : (m : ℕ) (z : ℤ) → (z +ℤ pos 1) ≤ℤ pos 0 → (times m z +ℤ pos m) ≤ℤ pos 0
falls zero z h = omega (arith, ints)
falls (suc m) z h = let e : (times m z +ℤ pos m) ≤ℤ pos 0 = falls m z h in omega (arith, ints)

abbrev above : ℤ → ℕ
above (pos n) = n
above (negsuc n) = 0

le_above : (z : ℤ) → z ≤ℤ pos (above z)
le_above (pos n) = omega (arith, ints)
le_above (negsuc n) = omega (arith, ints)

-- numbers, the first slope greater: the residuals fall without bound
unbounded : (s t : ℕ → Date) (p l k : ℕ) (x y u v : ℤ) → Repeats s p l x → Repeats t p l y → (y +ℤ pos 1) ≤ℤ x → s p ≡ At u → t (k + p) ≡ At v → IsLeftAt s t k Early
unbounded s t p l k x y u v a b h es et = record { below = λ j. early_le (date_left (s j) (t (k + j))); greatest = λ d g. by_value d g } where
  at_turn : (m : ℕ) → date_left (s (p + m * l)) (t (k + (p + m * l))) ≡ At ((v -ℤ u) +ℤ (times m y -ℤ times m x))
  at_turn m =
      let ra : Repeats s p (m * l) (times m x) = repeats_times m a in
      let rb : Repeats t p (m * l) (times m y) = repeats_times m b in
      let n : k + (p + m * l) ≡ k + p + m * l = omega arith in
      ap (λ z. date_left z (t (k + (p + m * l)))) (ra.at p (omega arith) ∙ ap (move (times m x)) es)
      ∙ ap (date_left (move (times m x) (At u))) (ap t n ∙ rb.at (k + p) (omega arith) ∙ ap (move (times m y)) et)
      ∙ ap At (omega (arith, ints))

  differ : (m : ℕ) → (times m y -ℤ times m x) ≡ times m (y -ℤ x)
  differ zero = omega (arith, ints)
  differ (suc m) = let e : (times m y -ℤ times m x) ≡ times m (y -ℤ x) = differ m in omega (arith, ints)

  by_value : (d : Date) → ((i : ℕ) → Le d (date_left (s i) (t (k + i)))) → Le d Early
  by_value Early g = early_le Early
  by_value (At w) g =
      let z : ℤ = (v -ℤ u) -ℤ w in
      let m : ℕ = suc (above z) in
      let e : z ≤ℤ pos (above z) = le_above z in
      let f : (times m (y -ℤ x) +ℤ pos m) ≤ℤ pos 0 = falls m (y -ℤ x) (omega (arith, ints)) in
      let q : (times m y -ℤ times m x) ≡ times m (y -ℤ x) = differ m in
      let low : Le (At w) (At ((v -ℤ u) +ℤ (times m y -ℤ times m x))) = le_trans (g (p + m * l)) (le_is (at_turn m)) in
      let r : w ≤ℤ ((v -ℤ u) +ℤ (times m y -ℤ times m x)) = low.holds in
      absurd (omega (arith, ints))
  by_value Never g = let low : Le Never (At ((v -ℤ u) +ℤ (times 0 y -ℤ times 0 x))) = le_trans (g (p + 0 * l)) (le_is (at_turn 0)) in absurd low.holds

-- where g repeats by at least the step of f, the first offsets decide
decided : (f g : Form) (y : ℤ) → IsForm f → IsForm g → Repeats (value_at g) (repeat_start g) (period_with f g) y → rise_of f g ≤ℤ y → (k : ℕ) → IsLeftAt (value_at f) (value_at g) k (left_over f g k)
decided f g y isf isg b h k =
    let l : ℕ = period_with f g in
    let pos_l : 0 < l = common_positive f.period g.period isf.period_positive in
    let one : l ≡ suc (l - 1) = omega arith in
    let last : later_start f g + (l - 1) ≡ offsets_of f g - 1 = omega arith in
    let r : IsLeftAt (value_at f) (value_at g) k (least_of_first (λ i. date_left (value_at f i) (value_at g (k + i))) (later_start f g + (l - 1))) =
    left_decided (value_at f) (value_at g) (later_start f g) (l - 1) k (rise_of f g) y
    (repeats_is one refl (repeats_later (later_start f g) (omega arith) (rise_repeats f g isf)))
    (repeats_is one refl (repeats_later (later_start f g) (omega arith) b)) h in
    subst (λ (z : ℕ). IsLeftAt (value_at f) (value_at g) k (least_of_first (λ i. date_left (value_at f i) (value_at g (k + i))) z)) last r

sign_not_first : (z : ℤ) → by_sign z ≡ Second → (z +ℤ pos 1) ≤ℤ pos 0
sign_not_first (pos zero) h = absurd cc
sign_not_first (pos (suc n)) h = absurd cc
sign_not_first (negsuc n) h = omega (arith, ints)

left_is_by_slopes : (f g : Form) → IsForm f → IsForm g → (tail_of f ≡ Early → ⊥) → (k : ℕ) (o : Slopes) → slopes_of f g ≡ o → IsLeftAt (value_at f) (value_at g) k (left_by_slopes o f g k)
left_is_by_slopes f g isf isg some k Equal h = decided f g (rise_of f g) isf isg (equal_repeats f g isf isg h) (omega (arith, ints)) k
left_is_by_slopes f g isf isg some k Second h = cases (tail_of f) (tail_of g) refl refl h where
  never : tail_of g ≡ Never → IsLeftAt (value_at f) (value_at g) k (left_over f g k)
  never e = decided f g (rise_of f g) isf isg (record
      { at = λ j w. tail_never g isg e (j + period_with f g) (omega arith) ∙ ap (move (rise_of f g)) (sym (tail_never g isg e j w)) }) (omega (arith, ints)) k

  cases : (a b : Date) → tail_of f ≡ a → tail_of g ≡ b → slopes_by a b (rise_of f g -ℤ fall_of f g) ≡ Second → IsLeftAt (value_at f) (value_at g) k (left_over f g k)
  cases Early b ea eb h = absurd (some ea)
  cases (At s) Early ea eb h = absurd cc
  cases (At s) (At t) ea eb h = let low : ((rise_of f g -ℤ fall_of f g) +ℤ pos 1) ≤ℤ pos 0 =
      sign_not_first (rise_of f g -ℤ fall_of f g) h in decided f g (fall_of f g) isf isg (fall_repeats f g isg) (omega (arith, ints)) k
  cases (At s) Never ea eb h = never eb
  cases Never Early ea eb h = absurd cc
  cases Never (At t) ea eb h = absurd cc
  cases Never Never ea eb h = absurd cc
left_is_by_slopes f g isf isg some k First h = cases (tail_of f) (tail_of g) refl refl h where
  cases : (a b : Date) → tail_of f ≡ a → tail_of g ≡ b → slopes_by a b (rise_of f g -ℤ fall_of f g) ≡ First → IsLeftAt (value_at f) (value_at g) k Early
  cases Early Early ea eb h = absurd cc
  cases Early (At t) ea eb h = absurd cc
  cases Early Never ea eb h = absurd cc
  cases (At s) Early ea eb h = early_below (value_at f) (value_at g) k (repeat_start f)
      (ap (λ z. date_left z (value_at g (k + repeat_start f))) ea ∙ ap (date_left (At s)) (tail_early g isg eb (k + repeat_start f)))
  cases (At s) (At t) ea eb h =
      let p : ℕ = later_start f g in
      let sign : (n : ℕ) × (rise_of f g -ℤ fall_of f g ≡ pos (suc n)) = sign_first (rise_of f g -ℤ fall_of f g) h in
      let vs : (x : ℤ) × (value_at f p ≡ At x) = tail_number f s isf ea p (omega arith) in
      let vt : (x : ℤ) × (value_at g (k + p) ≡ At x) = tail_number g t isg eb (k + p) (omega arith) in
      let zs : rise_of f g -ℤ fall_of f g ≡ pos (suc sign.0) = sign.1 in
      unbounded (value_at f) (value_at g) p (period_with f g) k (rise_of f g) (fall_of f g) vs.0 vt.0
      (repeats_later p (omega arith) (rise_repeats f g isf)) (repeats_later p (omega arith) (fall_repeats f g isg)) (omega (arith, ints)) vs.1 vt.1
  cases (At s) Never ea eb h = absurd cc
  cases Never Early ea eb h = early_below (value_at f) (value_at g) k (repeat_start f)
      (ap (λ z. date_left z (value_at g (k + repeat_start f))) ea ∙ ap (date_left Never) (tail_early g isg eb (k + repeat_start f)))
  cases Never (At t) ea eb h =
      let p : ℕ = later_start f g in
      let vt : (x : ℤ) × (value_at g (k + p) ≡ At x) = tail_number g t isg eb (k + p) (omega arith) in
      early_below (value_at f) (value_at g) k p (ap (λ z. date_left z (value_at g (k + p))) (tail_never f isf ea p (omega arith)) ∙ ap (date_left Never) vt.1)
  cases Never Never ea eb h = absurd cc

-- the residual is that of the definition at every shift
pub left_is : (f g : Form) → IsForm f → IsForm g → (k : ℕ) → IsLeftAt (value_at f) (value_at g) k (residual_at f g k)
left_is f g isf isg k = cases (tail_of f) refl where
  cases : (a : Date) → tail_of f ≡ a → IsLeftAt (value_at f) (value_at g) k (left_by a f g k)
  cases Early e = never_below (value_at f) (value_at g) k (tail_early f isf e)
  cases (At s) e = left_is_by_slopes f g isf isg (λ h. absurd (let c : At s ≡ Early = sym e ∙ h in cc)) k (slopes_of f g) refl
  cases Never e = left_is_by_slopes f g isf isg (λ h. absurd (let c : Never ≡ Early = sym e ∙ h in cc)) k (slopes_of f g) refl

pub left_rises : (f g : Form) → IsForm f → IsForm g → Rising (residual_at f g)
left_rises f g isf isg = record {
  rises = λ j k w.
      (left_is f g isf isg k).greatest (residual_at f g j) (λ i. le_trans ((left_is f g isf isg j).below i) (left_mono (value_at f i) (isg.rising.rises (j + i) (k + i) (omega arith))));
}

left_serves_from : (f g : Form) → IsForm f → IsForm g → (q : ℕ) → repeat_start g ≤ q → Serves (residual_at f g) (plan q g.period)
left_serves_from f g isf isg q h = record {
  turns = isg.period_positive;
  step = g.step;
  repeats = repeats_later q h (left_repeats (value_at f) (value_at g) (residual_at f g) (repeat_start g) g.period g.step (left_is f g isf isg) (form_repeats_own g isg));
}

pub left_serves : (f g : Form) → IsForm f → IsForm g → Serves (residual_at f g) (left_plan f g)
left_serves f g isf isg = cases (tail_of f) (tail_of g) where
  long : Serves (residual_at f g) (long_left f g)
  long = let fits : g.period ≤ size_of g = isg.period_fits in left_serves_from f g isf isg (max (size_of g) (offsets_of f g) - g.period) (omega arith)

  short : Serves (residual_at f g) (short_left f g)
  short = left_serves_from f g isf isg (repeat_start g) (omega arith)

  by_slopes : (o : Slopes) → Serves (residual_at f g) (left_plan_by_slopes o f g)
  by_slopes Equal = long
  by_slopes First = short
  by_slopes Second = long

  cases : (a b : Date) → Serves (residual_at f g) (left_plan_by a b f g)
  cases Early b = short
  cases (At s) Early = short
  cases (At s) (At t) = by_slopes (slopes_of f g)
  cases (At s) Never = short
  cases Never Early = short
  cases Never (At t) = short
  cases Never Never = long

pub form_left_is : (f g : Form) → IsForm f → IsForm g → IsCanonical (form_left f g)
form_left_is f g isf isg = served_is (residual_at f g) (left_plan f g) (left_rises f g isf isg) (left_serves f g isf isg)

pub form_left_values : (f g : Form) → IsForm f → IsForm g → HasValues (form_left f g) (residual_at f g)
form_left_values f g isf isg = served_values (residual_at f g) (left_plan f g) (left_rises f g isf isg) (left_serves f g isf isg)
