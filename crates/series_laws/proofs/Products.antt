-- The product of forms is a form of the need.
use Rattle.std.proofs.Common.{◌≡◌, refl, ap, arith, ℕ, ℤ, pos, zero, suc, ◌+◌, ◌*◌, ◌-◌, ◌/◌, ◌%◌, ◌≤◌, ◌<◌, ◌+ℤ◌, ◌-ℤ◌, sym, ◌∙◌, subst}
use Rattle.std.specs.Prelude.{◌≤ℤ◌}
use Rattle.std.proofs.lemmas.Int.{ints}
use Rattle.std.proofs.lemmas.Nat.{mod_below, div-add-mod'}
use Rattle.dioid.specs.Dates.{date_product, move}
use Rattle.dioid.specs.declared.dates.Date.{Date}
use Rattle.dioid.specs.declared.dates.Date.TheVariants.{Early, At, Never}
use Rattle.dioid.specs.DateOrder.{Le}
use Rattle.dioid.proofs.AtMost.{le_refl, le_is, le_trans, le_antisym, early_le, product_le, never_le}
use Rattle.series_laws.specs.Periodic.{Rising, Repeats, times}
use Rattle.series_laws.proofs.Repeating.{repeats_times, repeats_is, times_add}
use Rattle.series_laws.specs.Product.{product_at}
use Rattle.series_laws.proofs.ProductsRepeat.{le_product, product_at_le, product_repeats_equal, product_repeats_unequal}
use Rattle.series_laws.proofs.Items.{times_commutes}
use Rattle.series_laws.specs.SeriesForms.{Form, size_of, repeat_start, value_at, IsForm, HasValues, IsCanonical}
use Rattle.series_laws.specs.declared.plans.Slopes.{Slopes}
use Rattle.series_laws.specs.declared.plans.Slopes.TheVariants.{Equal, First, Second}
use Rattle.series_laws.specs.Needs.{plan, period_with, rise_of, fall_of, tail_of, slopes_by, slopes_of, ceiling}
use Rattle.series_laws.specs.ProductNeeds.{lifts_of, waits_of, product_first, product_first_by, product_by_slopes, product_plan_by, product_plan, form_product}
use Rattle.series_laws.proofs.Sums.{Serves, served_is, served_values, serves_same, form_repeats_own, common_positive, rise_repeats, fall_repeats}
use Rattle.series_laws.proofs.Sums.{tail_early, tail_number, ceiling_enough, sign_first, equal_repeats, second_first}

pub product_rises : (s t : ℕ → Date) → Rising s → Rising t → Rising (product_at s t)
product_rises s t a b = record {
  rises = λ j k w. product_at_le s t j (product_at s t k) (λ i m e.
      le_trans (product_le (le_refl (s i)) (b.rises m (m + (k - j)) (omega arith))) (le_product s t i (m + (k - j)) k (omega arith)));
}

pub product_commutes : (s t : ℕ → Date) (k : ℕ) → product_at s t k ≡ product_at t s k
product_commutes s t k = le_antisym (half s t) (half t s) where
  half : (s t : ℕ → Date) → Le (product_at s t k) (product_at t s k)
  half s t = product_at_le s t k (product_at t s k) (λ i j e. le_trans (le_is (times_commutes (s i) (t j))) (le_product t s j i k (omega arith)))

pub early_product : (s t : ℕ → Date) → ((k : ℕ) → s k ≡ Early) → (k : ℕ) → product_at s t k ≡ Early
early_product s t h k = le_antisym (product_at_le s t k Early (λ i j e. le_is (ap (λ z. date_product z (t j)) (h i)))) (early_le (product_at s t k))

early_serves : (s : ℕ → Date) → ((k : ℕ) → s k ≡ Early) → Serves s (plan 0 1)
early_serves s h = record { turns = omega arith; step = pos 0; repeats = record { at = λ k w. h (k + 1) ∙ ap (move (pos 0)) (sym (h k)) } }

lifted : (n l : ℕ) → 0 < l → n ≤ (n + (l - 1)) / l * l
lifted n l h =
    let e : (n + (l - 1)) / l * l + (n + (l - 1)) % l ≡ n + (l - 1) = div-add-mod' (n + (l - 1)) l in
    let low : (n + (l - 1)) % l < l = mod_below (n + (l - 1)) l h in
    omega arith

first_serves : (f g : Form) → IsForm f → IsForm g → slopes_of f g ≡ First → Serves (product_at (value_at f) (value_at g)) (product_first f g)
first_serves f g isf isg h = cases (tail_of f) (tail_of g) refl refl h where
  s : ℕ → Date
  s = value_at f

  cases : (a b : Date) → tail_of f ≡ a → tail_of g ≡ b → slopes_by a b (rise_of f g -ℤ fall_of f g) ≡ First → Serves (product_at (value_at f) (value_at g)) (product_first_by a b f g)
  cases Early Early ea eb h = absurd cc
  cases Early (At t) ea eb h = absurd cc
  cases Early Never ea eb h = absurd cc
  cases (At s) Early ea eb h = record {
    turns = isf.period_positive;
    step = pos 0;
    repeats = let none : (k : ℕ) → product_at (value_at f) (value_at g) k ≡ Early = λ k. product_commutes (value_at f) (value_at g) k
        ∙ early_product (value_at g) (value_at f) (tail_early g isg eb) k in
        record { at = λ k w. none (k + f.period) ∙ ap (move (pos 0)) (sym (none k)) };
  }
  cases (At s) (At t) ea eb h =
      let l : ℕ = period_with f g in
      let v : ℕ = lifts_of f g in
      let u : ℕ = waits_of f g in
      let x : ℤ = rise_of f g in
      let y : ℤ = fall_of f g in
      let gain : ℤ = rise_of f g -ℤ fall_of f g in
      let pos_l : 0 < l = common_positive f.period g.period isf.period_positive in
      let sign : (n : ℕ) × (rise_of f g -ℤ fall_of f g ≡ pos (suc n)) = sign_first (rise_of f g -ℤ fall_of f g) h in
      let enough : times v y ≤ℤ times u gain =
      subst (λ (z : ℤ). times v y ≤ℤ times (ceiling (times v y) z) z) (sym sign.1) (ceiling_enough (times v y) sign.0) in
      let all : times (v + u) y ≡ times v y +ℤ times u y = times_add v u y in
      let parts : times u x ≡ times u gain +ℤ times u y = sums u gain y x (omega (arith, ints)) in
      let whole : (v + u) * l ≡ v * l + u * l = omega arith in
      let fits : f.period ≤ size_of f = isf.period_fits in
      let high : size_of f ≤ v * l = lifted (size_of f) l pos_l in
      let from : repeat_start f + f.period + repeat_start g + (v * l + u * l) ≡ size_of f + repeat_start g + (v * l + u * l) = omega arith in
      let again : Repeats (product_at (value_at f) (value_at g)) (repeat_start f + f.period + repeat_start g + (v * l + u * l)) f.period f.step =
      product_repeats_unequal (value_at f) (value_at g) (repeat_start f) f.period (repeat_start g) (v * l) (u * l) f.step (times u x) (times (v + u) y) isf.rising (form_repeats_own f isf)
      (repeats_times u (rise_repeats f g isf)) (repeats_is whole refl (repeats_times (v + u) (fall_repeats f g isg))) (omega arith) (omega (arith, ints)) in
      record { turns = isf.period_positive; step = f.step; repeats = subst (λ (z : ℕ). Repeats (product_at (value_at f) (value_at g)) z f.period f.step) from again } where
        sums : (m : ℕ) (a b c : ℤ) → c ≡ a +ℤ b → times m c ≡ times m a +ℤ times m b
        sums zero a b c e = omega (arith, ints)
        sums (suc m) a b c e = let old : times m c ≡ times m a +ℤ times m b = sums m a b c e in omega (arith, ints)
  cases (At s) Never ea eb h = absurd cc
  cases Never Early ea eb h = early_serves (product_at (value_at f) (value_at g)) (λ k. product_commutes (value_at f) (value_at g) k ∙ early_product (value_at g) (value_at f) (tail_early g isg eb) k)
  cases Never (At t) ea eb h =
      let fits : f.period ≤ size_of f = isf.period_fits in
      let never : (k : ℕ) → repeat_start f + repeat_start g ≤ k → product_at (value_at f) (value_at g) k ≡ Never = λ k w.
      let v : (x : ℤ) × (value_at g (k - repeat_start f) ≡ At x) = tail_number g t isg eb (k - repeat_start f) (omega arith) in
      never_le (le_trans (le_is (sym (ap (λ z. date_product z (value_at g (k - repeat_start f))) ea ∙ ap (date_product Never) v.1)))
      (le_product (value_at f) (value_at g) (repeat_start f) (k - repeat_start f) k (omega arith))) in
      record { turns = omega arith; step = pos 0; repeats = record { at = λ k w. never (k + 1) (omega arith) ∙ ap (move (pos 0)) (sym (never k (omega arith))) } }
  cases Never Never ea eb h = absurd cc

pub product_serves : (f g : Form) → IsForm f → IsForm g → Serves (product_at (value_at f) (value_at g)) (product_plan f g)
product_serves f g isf isg = cases (tail_of f) (tail_of g) refl refl where
  by_slopes : (o : Slopes) → slopes_of f g ≡ o → Serves (product_at (value_at f) (value_at g)) (product_by_slopes o f g)
  by_slopes Equal h = record {
    turns = common_positive f.period g.period isf.period_positive;
    step = rise_of f g;
    repeats = product_repeats_equal (value_at f) (value_at g) (repeat_start f) (repeat_start g) (period_with f g) (rise_of f g) (rise_repeats f g isf) (equal_repeats f g isf isg h);
  }
  by_slopes First h = first_serves f g isf isg h
  by_slopes Second h = serves_same (product_at (value_at g) (value_at f)) (product_at (value_at f) (value_at g)) (product_first g f) (product_commutes (value_at f) (value_at g))
      (first_serves g f isg isf (second_first f g isf isg h))

  left_early : tail_of f ≡ Early → Serves (product_at (value_at f) (value_at g)) (plan 0 1)
  left_early e = early_serves (product_at (value_at f) (value_at g)) (early_product (value_at f) (value_at g) (tail_early f isf e))

  right_early : tail_of g ≡ Early → Serves (product_at (value_at f) (value_at g)) (plan 0 1)
  right_early e = early_serves (product_at (value_at f) (value_at g)) (λ k. product_commutes (value_at f) (value_at g) k ∙ early_product (value_at g) (value_at f) (tail_early g isg e) k)

  cases : (a b : Date) → tail_of f ≡ a → tail_of g ≡ b → Serves (product_at (value_at f) (value_at g)) (product_plan_by a b f g)
  cases Early b ea eb = left_early ea
  cases (At s) Early ea eb = right_early eb
  cases (At s) (At t) ea eb = by_slopes (slopes_of f g) refl
  cases (At s) Never ea eb = by_slopes (slopes_of f g) refl
  cases Never Early ea eb = right_early eb
  cases Never (At t) ea eb = by_slopes (slopes_of f g) refl
  cases Never Never ea eb = by_slopes (slopes_of f g) refl

pub form_product_is : (f g : Form) → IsForm f → IsForm g → IsCanonical (form_product f g)
form_product_is f g isf isg = served_is (product_at (value_at f) (value_at g)) (product_plan f g) (product_rises (value_at f) (value_at g) isf.rising isg.rising) (product_serves f g isf isg)

pub form_product_values : (f g : Form) → IsForm f → IsForm g → HasValues (form_product f g) (product_at (value_at f) (value_at g))
form_product_values f g isf isg = served_values (product_at (value_at f) (value_at g)) (product_plan f g) (product_rises (value_at f) (value_at g) isf.rising isg.rising) (product_serves f g isf isg)
