-- The sum and the minimum of forms are forms of the need.
use Rattle.std.proofs.Common.{◌≡◌, refl, ap, arith, ℕ, ℤ, pos, negsuc, zero, suc, ◌+◌, ◌*◌, ◌-◌, ◌/◌, ◌%◌, ◌≤◌, ◌<◌, ◌-ℤ◌, sym, ◌∙◌, subst, ⊎_elim, Bool, true, eqb}
use Rattle.std.specs.Prelude.{◌≤ℤ◌}
use Rattle.std.proofs.lemmas.Int.{ints, clamps}
use Rattle.std.proofs.lemmas.Bool.Decides.{nat_tests}
use Rattle.std.proofs.lemmas.Nat.{div-mul-add, mod-mul-add, mod_below, div-add-mod'}
use Rattle.std.proofs.Math.Nat.{eq-or-lt_of_le, le-mul_of_pos_right, mul-le-mul_right}
use Rattle.number_laws.proofs.Numbers.{zero_test}
use Rattle.dioid.specs.declared.dates.Date.{Date}
use Rattle.dioid.specs.declared.dates.Date.TheVariants.{Early, At, Never}
use Rattle.dioid.specs.Dates.{move}
use Rattle.dioid.specs.DateOrder.{Le}
use Rattle.dioid.proofs.AtMost.{later_commutes, earlier_commutes, le_is, le_trans, early_le, le_never, later_le, le_later_left, le_later_right, le_earlier, earlier_le_left, earlier_le_right, never_le}
use Rattle.series_laws.specs.Periodic.{Rising, Repeats, times}
use Rattle.series_laws.proofs.Repeating.{repeats_later, repeats_times, repeats_is}
use Rattle.series_laws.specs.Pointwise.{sum_at, least_at}
use Rattle.series_laws.proofs.SumsRepeat.{sum_repeats_equal, least_repeats_equal, crossed, sum_repeats_left, least_repeats_right}
use Rattle.series_laws.specs.SeriesForms.{Form, repeat_start, value_at, IsForm, HasValues, IsCanonical, gap}
use Rattle.series_laws.proofs.FormValues.{value_repeats, early_all, first_ge, first_le, first_holds}
use Rattle.dioid.proofs.Moves.{moved_to_never}
use Rattle.series_laws.proofs.Canonical.{canonical_values, canonical_is}
use Rattle.series_laws.specs.Needs.{plan, form_by, turns_of, common, period_with, rise_of, fall_of, tail_of, by_sign, slopes_by, slopes_of}
use Rattle.series_laws.specs.Needs.{greatest_int, ceiling, later_start, lead_of, periods_behind, crossing, crossing_by, sum_plan, sum_plan_by}
use Rattle.series_laws.specs.Needs.{least_plan, least_plan_by, form_sum, form_least}
use Rattle.series_laws.specs.declared.plans.NeedPlan.{NeedPlan}
use Rattle.series_laws.specs.declared.plans.Slopes.{Slopes}
use Rattle.series_laws.specs.declared.plans.Slopes.TheVariants.{Equal, First, Second}

-- a plan serves a function
pub record Serves (s : ℕ → Date) (r : NeedPlan) : Type 0 where
  pub turns : 0 < r.turn
  pub step : ℤ
  pub repeats : Repeats s r.from r.turn step

pub served_is : (s : ℕ → Date) (r : NeedPlan) → Rising s → Serves s r → IsCanonical (form_by s r)
served_is s r up h = canonical_is s r.from r.turn h.step up h.turns h.repeats

pub served_values : (s : ℕ → Date) (r : NeedPlan) → Rising s → Serves s r → HasValues (form_by s r) s
served_values s r up h = canonical_values s r.from r.turn h.step up h.turns h.repeats

pub form_repeats_own : (f : Form) → IsForm f → Repeats (value_at f) (repeat_start f) f.period f.step
form_repeats_own f is = value_repeats f is.period_positive is.period_fits

-- ---- common periods

turns_positive : (a b : ℕ) → 0 < turns_of a b
turns_positive a b = first_ge (λ m. eqb (m * a % b) 0) 1 (b - 1)

eqb_zero : (n : ℕ) → eqb n 0 ≡ true → n ≡ 0
eqb_zero n h = grind (arith, nat_tests)

pub common_positive : (a b : ℕ) → 0 < a → 0 < common a b
common_positive a b pos_a = let h : 0 < turns_of a b = turns_positive a b in omega (arith, le-mul_of_pos_right (turns_of a b) pos_a)

pub common_first : (a b : ℕ) → 0 < a → common a b / a * a ≡ common a b
common_first a b pos_a =
    let e : turns_of a b * a + 0 ≡ turns_of a b * a = omega arith in
    let d : turns_of a b * a / a ≡ turns_of a b = ap (λ (z : ℕ). z / a) (sym e) ∙ div-mul-add (turns_of a b) a 0 pos_a in
    ap (λ (z : ℕ). z * a) d

pub common_second : (a b : ℕ) → 0 < b → common a b / b * b ≡ common a b
common_second a b pos_b =
    let t : ℕ → Bool = λ m. eqb (m * a % b) 0 in
    let whole : 1 + (b - 1) ≡ b = omega arith in
    let turned : b * a ≡ a * b + 0 = omega arith in
    let last : t (1 + (b - 1)) ≡ true = ap t whole ∙ zero_test (b * a % b) (ap (λ (z : ℕ). z % b) turned ∙ mod-mul-add a b 0 pos_b) in
    let none : common a b % b ≡ 0 = eqb_zero (common a b % b) (first_holds t 1 (b - 1) last) in
    let d : common a b / b * b + common a b % b ≡ common a b = div-add-mod' (common a b) b in
    omega arith

pub rise_repeats : (f g : Form) → IsForm f → Repeats (value_at f) (repeat_start f) (period_with f g) (rise_of f g)
rise_repeats f g is = repeats_is (common_first f.period g.period is.period_positive) refl (repeats_times (period_with f g / f.period) (form_repeats_own f is))

pub fall_repeats : (f g : Form) → IsForm g → Repeats (value_at g) (repeat_start g) (period_with f g) (fall_of f g)
fall_repeats f g is = repeats_is (common_second f.period g.period is.period_positive) refl (repeats_times (period_with f g / g.period) (form_repeats_own g is))

-- ---- tails

pub tail_never : (f : Form) → IsForm f → tail_of f ≡ Never → (k : ℕ) → repeat_start f ≤ k → value_at f k ≡ Never
tail_never f is e k w = never_le (le_trans (le_is (sym e)) (is.rising.rises (repeat_start f) k w))

pub tail_early : (f : Form) → IsForm f → tail_of f ≡ Early → (k : ℕ) → value_at f k ≡ Early
tail_early f is e = early_all (value_at f) (repeat_start f) f.period (repeat_start f) f.step is.rising is.period_positive (form_repeats_own f is) (omega arith) e

pub tail_number : (f : Form) (a : ℤ) → IsForm f → tail_of f ≡ At a → (k : ℕ) → repeat_start f ≤ k → (v : ℤ) × (value_at f k ≡ At v)
tail_number f a is e k w = by_value (value_at f k) refl where
  by_value : (d : Date) → value_at f k ≡ d → (v : ℤ) × (value_at f k ≡ At v)
  by_value Early h = absurd ((let l : Le (At a) Early = le_trans (le_is (sym e)) (le_trans (is.rising.rises (repeat_start f) k w) (le_is h)) in l.holds))
  by_value (At v) h = (v, h)
  by_value Never h =
      let long : Repeats (value_at f) (repeat_start f) (k * f.period) (times k f.step) = repeats_times k (form_repeats_own f is) in
      let far : k ≤ repeat_start f + k * f.period = omega (arith, le-mul_of_pos_right k is.period_positive) in
      let last : value_at f (repeat_start f + k * f.period) ≡ Never = never_le (le_trans (le_is (sym h)) (is.rising.rises k (repeat_start f + k * f.period) far)) in
      absurd (let c : At a ≡ Never = sym e ∙ moved_to_never (times k f.step) (tail_of f) (sym (long.at (repeat_start f) (omega arith)) ∙ last) in cc)

-- ---- where the greater slope has the greater values

times_pos : (m g : ℕ) → times m (pos g) ≡ pos (m * g)
times_pos zero g = omega (arith, ints)
times_pos (suc m) g = let e : times m (pos g) ≡ pos (m * g) = times_pos m g in omega (arith, ints)

pub ceiling_enough : (d : ℤ) (n : ℕ) → d ≤ℤ times (ceiling d (pos (suc n))) (pos (suc n))
ceiling_enough (pos d) n =
    let c : ℕ = (d + (suc n - 1)) / suc n in
    let r : ℕ = (d + (suc n - 1)) % suc n in
    let e : c * suc n + r ≡ d + (suc n - 1) = div-add-mod' (d + (suc n - 1)) (suc n) in
    let low : r < suc n = mod_below (d + (suc n - 1)) (suc n) (omega arith) in
    let t : times c (pos (suc n)) ≡ pos (c * suc n) = times_pos c (suc n) in
    omega (arith, ints)
ceiling_enough (negsuc d) n = omega (arith, ints)

pub le_greatest_int : (f : ℕ → ℤ) (n j : ℕ) → j ≤ n → f j ≤ℤ greatest_int f n
le_greatest_int f zero j h = let e : f j ≡ f 0 = ap f (let z : j ≡ 0 = omega arith in z) in rw e (omega (arith, ints))
le_greatest_int f (suc n) j h = ⊎_elim
    (λ q. let e : f j ≡ f (suc n) = ap f q in rw e (omega (arith, ints, clamps)))
    (λ l. let e : f j ≤ℤ greatest_int f n = le_greatest_int f n j (omega arith) in omega (arith, ints, clamps))
    (eq-or-lt_of_le {n = j} {m = suc n} h)

pub sign_first : (z : ℤ) → by_sign z ≡ First → (n : ℕ) × (z ≡ pos (suc n))
sign_first (pos zero) h = (0, cc)
sign_first (pos (suc n)) h = (n, refl)
sign_first (negsuc n) h = (0, cc)

sign_equal : (z : ℤ) → by_sign z ≡ Equal → z ≡ pos 0
sign_equal (pos zero) h = refl
sign_equal (pos (suc n)) h = cc
sign_equal (negsuc n) h = cc

sign_second : (z : ℤ) → by_sign z ≡ Second → by_sign (pos 0 -ℤ z) ≡ First
sign_second (pos zero) h = cc
sign_second (pos (suc n)) h = cc
sign_second (negsuc n) h = let e : (pos 0 -ℤ negsuc n) ≡ pos (suc n) = omega (arith, ints) in ap by_sign e

-- where f has the greater slope, it has the greater values from the crossing on
pub crossing_le : (f g : Form) → IsForm f → IsForm g → slopes_of f g ≡ First → (k : ℕ) → crossing f g ≤ k → Le (value_at g k) (value_at f k)
crossing_le f g isf isg h = cases (tail_of f) (tail_of g) refl refl h where
  z : ℤ
  z = rise_of f g -ℤ fall_of f g

  cases : (a b : Date) → tail_of f ≡ a → tail_of g ≡ b → slopes_by a b (rise_of f g -ℤ fall_of f g) ≡ First → (k : ℕ) → crossing_by a b f g ≤ k → Le (value_at g k) (value_at f k)
  cases Early Early ea eb h k w = absurd cc
  cases Early (At t) ea eb h k w = absurd cc
  cases Early Never ea eb h k w = absurd cc
  cases (At s) Early ea eb h k w = le_trans (le_is (tail_early g isg eb k)) (early_le (value_at f k))
  cases (At s) (At t) ea eb h k w =
      let p : ℕ = later_start f g in
      let l : ℕ = period_with f g in
      let pos_l : 0 < l = common_positive f.period g.period isf.period_positive in
      let a : Repeats (value_at f) p l (rise_of f g) = repeats_later p (omega arith) (rise_repeats f g isf) in
      let b : Repeats (value_at g) p l (fall_of f g) = repeats_later p (omega arith) (fall_repeats f g isg) in
      let sign : (n : ℕ) × (rise_of f g -ℤ fall_of f g ≡ pos (suc n)) = sign_first (rise_of f g -ℤ fall_of f g) h in
      let zs : rise_of f g -ℤ fall_of f g ≡ pos (suc sign.0) = sign.1 in
      let gain : ℤ = rise_of f g -ℤ fall_of f g in
      let enough : lead_of f g ≤ℤ times (periods_behind f g) gain =
      subst (λ (y : ℤ). lead_of f g ≤ℤ times (ceiling (lead_of f g) y) y) (sym zs) (ceiling_enough (lead_of f g) sign.0) in
      crossed (value_at f) (value_at g) p l (periods_behind f g) (rise_of f g) (fall_of f g) gain a b pos_l (omega (arith, ints)) (omega (arith, ints))
      (λ j u v.
      let i : ℕ = j - p in
      let here : p + i ≡ j = omega arith in
      let vf : (x : ℤ) × (value_at f j ≡ At x) = tail_number f s isf ea j (omega arith) in
      let vg : (x : ℤ) × (value_at g j ≡ At x) = tail_number g t isg eb j (omega arith) in
      let low : gap (value_at f (p + i)) (value_at g (p + i)) ≤ℤ lead_of f g = le_greatest_int (λ i. gap (value_at f (p + i)) (value_at g (p + i))) (l - 1) i (omega arith) in
      let same : gap (value_at f (p + i)) (value_at g (p + i)) ≡ vg.0 -ℤ vf.0 = ap (λ (m : ℕ). gap (value_at f m) (value_at g m)) here
      ∙ ap (λ d. gap d (value_at g j)) vf.1 ∙ ap (gap (At vf.0)) vg.1 in
      let first_value : Le (At vg.0) (move (times (periods_behind f g) gain) (At vf.0)) = record { holds = omega (arith, ints) } in
      le_trans (le_is vg.1) (le_trans first_value (le_is (ap (move (times (periods_behind f g) gain)) (sym vf.1)))))
      k w
  cases (At s) Never ea eb h k w = absurd cc
  cases Never Early ea eb h k w = le_trans (le_is (tail_early g isg eb k)) (early_le (value_at f k))
  cases Never (At t) ea eb h k w = le_trans (le_never (value_at g k)) (le_is (sym (tail_never f isf ea k (omega arith))))
  cases Never Never ea eb h k w = absurd cc

crossing_late : (f g : Form) → later_start f g ≤ crossing f g
crossing_late f g = cases (tail_of f) (tail_of g) where
  cases : (a b : Date) → later_start f g ≤ crossing_by a b f g
  cases Early b = omega arith
  cases (At s) Early = omega arith
  cases (At s) (At t) = omega arith
  cases (At s) Never = omega arith
  cases Never b = omega arith

-- with equal slopes g repeats by the step of f
pub equal_repeats : (f g : Form) → IsForm f → IsForm g → slopes_of f g ≡ Equal → Repeats (value_at g) (repeat_start g) (period_with f g) (rise_of f g)
equal_repeats f g isf isg h = cases (tail_of f) (tail_of g) refl refl h where
  cases : (a b : Date) → tail_of f ≡ a → tail_of g ≡ b → slopes_by a b (rise_of f g -ℤ fall_of f g) ≡ Equal → Repeats (value_at g) (repeat_start g) (period_with f g) (rise_of f g)
  cases Early Early ea eb h = record { at = λ k w. tail_early g isg eb (k + period_with f g) ∙ ap (move (rise_of f g)) (sym (tail_early g isg eb k)) }
  cases Early (At t) ea eb h = absurd cc
  cases Early Never ea eb h = absurd cc
  cases (At s) Early ea eb h = absurd cc
  cases (At s) (At t) ea eb h = let e : rise_of f g -ℤ fall_of f g ≡ pos 0 = sign_equal (rise_of f g -ℤ fall_of f g) h in repeats_is refl (omega (arith, ints)) (fall_repeats f g isg)
  cases (At s) Never ea eb h = absurd cc
  cases Never Early ea eb h = absurd cc
  cases Never (At t) ea eb h = absurd cc
  cases Never Never ea eb h = record { at = λ k w. tail_never g isg eb (k + period_with f g) (omega arith) ∙ ap (move (rise_of f g)) (sym (tail_never g isg eb k w)) }

-- ---- the order of the operands

common_below : (a b : ℕ) → 0 < a → 0 < b → common a b ≤ common b a
common_below a b pos_a pos_b =
    let m : ℕ = common b a / a in
    let whole : m * a ≡ common b a = common_second b a pos_a in
    let pos_c : 0 < common b a = common_positive b a pos_b in
    let pos_m : 1 ≤ m = positive m whole pos_c in
    let e : m * a ≡ turns_of b a * b + 0 = omega arith in
    let none : m * a % b ≡ 0 = ap (λ (z : ℕ). z % b) e ∙ mod-mul-add (turns_of b a) b 0 pos_b in
    let low : turns_of a b ≤ m = first_le (λ m. eqb (m * a % b) 0) 1 (b - 1) m pos_m (zero_test (m * a % b) none) in
    omega (arith, mul-le-mul_right a low) where
      positive : (m : ℕ) → m * a ≡ common b a → 0 < common b a → 1 ≤ m
      positive zero e h = absurd (omega arith)
      positive (suc m) e h = omega arith

common_swap : (a b : ℕ) → 0 < a → 0 < b → common a b ≡ common b a
common_swap a b pos_a pos_b = let h : common a b ≤ common b a = common_below a b pos_a pos_b in let k : common b a ≤ common a b = common_below b a pos_b pos_a in omega arith

pub second_first : (f g : Form) → IsForm f → IsForm g → slopes_of f g ≡ Second → slopes_of g f ≡ First
second_first f g isf isg h = cases (tail_of f) (tail_of g) h where
  swap : period_with f g ≡ period_with g f
  swap = common_swap f.period g.period isf.period_positive isg.period_positive

  rises : fall_of f g ≡ rise_of g f
  rises = ap (λ (z : ℕ). times (z / g.period) g.step) swap

  falls : rise_of f g ≡ fall_of g f
  falls = ap (λ (z : ℕ). times (z / f.period) f.step) swap

  cases : (a b : Date) → slopes_by a b (rise_of f g -ℤ fall_of f g) ≡ Second → slopes_by b a (rise_of g f -ℤ fall_of g f) ≡ First
  cases Early Early h = absurd cc
  cases Early (At t) h = refl
  cases Early Never h = refl
  cases (At s) Early h = absurd cc
  cases (At s) (At t) h =
      let r : fall_of f g ≡ rise_of g f = rises in
      let q : rise_of f g ≡ fall_of g f = falls in
      let e : (pos 0 -ℤ (rise_of f g -ℤ fall_of f g)) ≡ (rise_of g f -ℤ fall_of g f) = omega (arith, ints) in
      ap by_sign (sym e) ∙ sign_second (rise_of f g -ℤ fall_of f g) h
  cases (At s) Never h = refl
  cases Never Early h = absurd cc
  cases Never (At t) h = absurd cc
  cases Never Never h = absurd cc

pub serves_same : (s t : ℕ → Date) (r : NeedPlan) → ((k : ℕ) → t k ≡ s k) → Serves s r → Serves t r
serves_same s t r e h = record { turns = h.turns; step = h.step; repeats = record { at = λ k w. e (k + r.turn) ∙ h.repeats.at k w ∙ ap (move h.step) (sym (e k)) } }

sum_first : (f g : Form) → IsForm f → IsForm g → slopes_of f g ≡ First → Serves (sum_at (value_at f) (value_at g)) (plan (crossing f g) f.period)
sum_first f g isf isg h = record {
  turns = isf.period_positive;
  step = f.step;
  repeats = let late : later_start f g ≤ crossing f g = crossing_late f g in
      sum_repeats_left (value_at f) (value_at g) (crossing f g) f.period f.step (crossing_le f g isf isg h) (repeats_later (crossing f g) (omega arith) (form_repeats_own f isf));
}

least_first : (f g : Form) → IsForm f → IsForm g → slopes_of f g ≡ First → Serves (least_at (value_at f) (value_at g)) (plan (crossing f g) g.period)
least_first f g isf isg h = record {
  turns = isg.period_positive;
  step = g.step;
  repeats = let late : later_start f g ≤ crossing f g = crossing_late f g in
      least_repeats_right (value_at f) (value_at g) (crossing f g) g.period g.step (crossing_le f g isf isg h) (repeats_later (crossing f g) (omega arith) (form_repeats_own g isg));
}

pub sum_serves : (f g : Form) → IsForm f → IsForm g → Serves (sum_at (value_at f) (value_at g)) (sum_plan f g)
sum_serves f g isf isg = cases (slopes_of f g) refl where
  cases : (o : Slopes) → slopes_of f g ≡ o → Serves (sum_at (value_at f) (value_at g)) (sum_plan_by o f g)
  cases Equal h = record {
    turns = common_positive f.period g.period isf.period_positive;
    step = rise_of f g;
    repeats = sum_repeats_equal (value_at f) (value_at g) (later_start f g) (period_with f g) (rise_of f g)
        (repeats_later (later_start f g) (omega arith) (rise_repeats f g isf)) (repeats_later (later_start f g) (omega arith) (equal_repeats f g isf isg h));
  }
  cases First h = sum_first f g isf isg h
  cases Second h = serves_same (sum_at (value_at g) (value_at f)) (sum_at (value_at f) (value_at g)) (plan (crossing g f) g.period) (λ k. later_commutes (value_at f k) (value_at g k))
      (sum_first g f isg isf (second_first f g isf isg h))

pub least_serves : (f g : Form) → IsForm f → IsForm g → Serves (least_at (value_at f) (value_at g)) (least_plan f g)
least_serves f g isf isg = cases (slopes_of f g) refl where
  cases : (o : Slopes) → slopes_of f g ≡ o → Serves (least_at (value_at f) (value_at g)) (least_plan_by o f g)
  cases Equal h = record {
    turns = common_positive f.period g.period isf.period_positive;
    step = rise_of f g;
    repeats = least_repeats_equal (value_at f) (value_at g) (later_start f g) (period_with f g) (rise_of f g)
        (repeats_later (later_start f g) (omega arith) (rise_repeats f g isf)) (repeats_later (later_start f g) (omega arith) (equal_repeats f g isf isg h));
  }
  cases First h = least_first f g isf isg h
  cases Second h = serves_same (least_at (value_at g) (value_at f)) (least_at (value_at f) (value_at g)) (plan (crossing g f) f.period) (λ k. earlier_commutes (value_at f k) (value_at g k))
      (least_first g f isg isf (second_first f g isf isg h))

pub sum_rises : (s t : ℕ → Date) → Rising s → Rising t → Rising (sum_at s t)
sum_rises s t a b = record { rises = λ j k w. later_le (le_trans (a.rises j k w) (le_later_left (s k) (t k))) (le_trans (b.rises j k w) (le_later_right (s k) (t k))) }

pub least_rises : (s t : ℕ → Date) → Rising s → Rising t → Rising (least_at s t)
least_rises s t a b = record { rises = λ j k w. le_earlier (le_trans (earlier_le_left (s j) (t j)) (a.rises j k w)) (le_trans (earlier_le_right (s j) (t j)) (b.rises j k w)) }

-- closure: the sum and the minimum of forms have canonical forms of their needs
pub form_sum_is : (f g : Form) → IsForm f → IsForm g → IsCanonical (form_sum f g)
form_sum_is f g isf isg = served_is (sum_at (value_at f) (value_at g)) (sum_plan f g) (sum_rises (value_at f) (value_at g) isf.rising isg.rising) (sum_serves f g isf isg)

pub form_sum_values : (f g : Form) → IsForm f → IsForm g → HasValues (form_sum f g) (sum_at (value_at f) (value_at g))
form_sum_values f g isf isg = served_values (sum_at (value_at f) (value_at g)) (sum_plan f g) (sum_rises (value_at f) (value_at g) isf.rising isg.rising) (sum_serves f g isf isg)

pub form_least_is : (f g : Form) → IsForm f → IsForm g → IsCanonical (form_least f g)
form_least_is f g isf isg = served_is (least_at (value_at f) (value_at g)) (least_plan f g) (least_rises (value_at f) (value_at g) isf.rising isg.rising) (least_serves f g isf isg)

pub form_least_values : (f g : Form) → IsForm f → IsForm g → HasValues (form_least f g) (least_at (value_at f) (value_at g))
form_least_values f g isf isg = served_values (least_at (value_at f) (value_at g)) (least_plan f g) (least_rises (value_at f) (value_at g) isf.rising isg.rising) (least_serves f g isf isg)
