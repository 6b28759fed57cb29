-- The star of a form is a form of the need.
use Rattle.std.proofs.Common.{◌≡◌, refl, ap, arith, ℕ, ℤ, pos, negsuc, zero, suc, max, ◌+◌, ◌*◌, ◌-◌, ◌≤◌, ◌<◌, ◌+ℤ◌, ◌-ℤ◌, sym, ◌∙◌, subst, ⊎_elim, ◌⊎◌, inl, inr, Bool, true, false, cond, not}
use Rattle.std.specs.Prelude.{◌≤ℤ◌, int_lt}
use Rattle.std.proofs.lemmas.Int.{ints}
use Rattle.std.proofs.Math.Nat.{eq-or-lt_of_le, mul-le-mul_left}
use Rattle.dioid.specs.Dates.{later_of, move}
use Rattle.dioid.specs.declared.dates.Date.{Date}
use Rattle.dioid.specs.declared.dates.Date.TheVariants.{Early, At, Never}
use Rattle.dioid.specs.DateOrder.{Le}
use Rattle.dioid.proofs.AtMost.{le_refl, le_is, le_trans, early_le, move_le, later_le, le_later_right, never_le}
use Rattle.series_laws.specs.Periodic.{Rising, Repeats, times}
use Rattle.series_laws.proofs.Repeating.{repeats_later, times_add}
use Rattle.series_laws.specs.SeriesStars.{IsStarAt, scaled}
use Rattle.series_laws.proofs.StarsRepeat.{star_never, scaled_zero, scaled_le, scaled_move, times_up, times_back, times_swap}
use Rattle.series_laws.specs.StarOf.{parts_star, star_by, star_at, from_one, with_one}
use Rattle.series_laws.proofs.StarParts.{star_rises, with_one_is}
use Rattle.series_laws.proofs.Anchors.{star_repeats_anchored, star_repeats_tail}
use Rattle.series_laws.specs.SeriesForms.{Form, size_of, repeat_start, value_at, IsForm, HasValues, IsCanonical, gap}
use Rattle.series_laws.proofs.FormValues.{form_values}
use Rattle.series_laws.specs.declared.plans.NeedPlan.{NeedPlan}
use Rattle.series_laws.specs.Needs.{plan, need_of, tail_of, greatest_int, sum_plan, form_sum}
use Rattle.series_laws.specs.declared.plans.Anchor.{Anchor}
use Rattle.series_laws.specs.ProductNeeds.{beats, anchor_step, anchor_upto, anchor_of, natural_of, loss_of_part, worst_loss, anchored_plan}
use Rattle.series_laws.specs.ProductNeeds.{own_plan_by, own_plan, one_shift, at_least, star_plan, star_plan_by, form_star}
use Rattle.series_laws.proofs.Sums.{Serves, served_is, served_values, form_repeats_own, tail_never, tail_early, tail_number, le_greatest_int, form_sum_is, form_sum_values}

-- u / b is at most a / c, and so on: ratios
pub ratio_trans : (b c d : ℕ) (u a v : ℤ) → 0 < b → times b u ≤ℤ times d a → times c a ≤ℤ times b v → times c u ≤ℤ times d v
ratio_trans b c d u a v pos_b h k = times_back b (times c u) (times d v) pos_b
    (let e : times c (times b u) ≤ℤ times c (times d a) = times_up c (times b u) (times d a) h in
    let f : times d (times c a) ≤ℤ times d (times b v) = times_up d (times c a) (times b v) k in
    let p : times b (times c u) ≡ times c (times b u) = times_swap b c u in
    let q : times c (times d a) ≡ times d (times c a) = times_swap c d a in
    let r : times d (times b v) ≡ times b (times d v) = times_swap d b v in
    omega (arith, ints))

ratio_trans_date : (b c d : ℕ) (u : Date) (a v : ℤ) → 0 < b → Le (scaled b u) (At (times d a)) → times c a ≤ℤ times b v → Le (scaled c u) (At (times d v))
ratio_trans_date b c d Early a v pos_b h k = early_le (At (times d v))
ratio_trans_date b c d (At u) a v pos_b h k = record { holds = ratio_trans b c d u a v pos_b h.holds k }
ratio_trans_date b c d Never a v pos_b h k = absurd h.holds

-- what is known of the anchor among the shifts 1 to m
pub record AnchorIs (f : Form) (m : ℕ) (a : Anchor) : Type 0 where
  pub positive : 0 < a.shift
  pub slow : times a.shift f.step ≤ℤ times f.period a.value
  pub cheap : (c : ℕ) → 0 < c → c ≤ m → Le (scaled a.shift (value_at f c)) (At (times c a.value))
  pub when_found : a.found ≡ true → (value_at f a.shift ≡ At a.value) × (a.shift ≤ m)
  pub when_not : a.found ≡ false → (a.shift ≡ f.period) × (a.value ≡ f.step) × ((c : ℕ) → 0 < c → c ≤ m → Le (scaled f.period (value_at f c)) (At (times c f.step -ℤ pos 1)))

pub not_lt : (x y : ℤ) → int_lt x y ≡ false → y ≤ℤ x
not_lt x y h = grind (arith, ints)

pub is_lt : (x y : ℤ) → int_lt x y ≡ true → (x +ℤ pos 1) ≤ℤ y
is_lt x y h = grind (arith, ints)

module _ (f : Form) (is : IsForm f) where
  -- one more shift, whose value the anchor covers
  kept : (m : ℕ) (a : Anchor) → AnchorIs f m a → Le (scaled a.shift (value_at f (suc m))) (At (times (suc m) a.value))
      → (a.found ≡ false → Le (scaled f.period (value_at f (suc m))) (At (times (suc m) f.step -ℤ pos 1))) → AnchorIs f (suc m) a
  kept m a old here lossy = record {
    positive = old.positive;
    slow = old.slow;
    cheap = λ c u w. ⊎_elim
        (λ e. let P : ℕ → Type 0 = λ z. Le (scaled a.shift (value_at f z)) (At (times z a.value)) in subst P (sym e) here)
        (λ l. old.cheap c u (omega arith))
        (eq-or-lt_of_le {n = c} {m = suc m} w);
    when_found = λ e. ((old.when_found e).0, let h : a.shift ≤ m = (old.when_found e).1 in omega arith);
    when_not = λ n. (
      (old.when_not n).0,
      (old.when_not n).1,
      λ c u w. ⊎_elim
          (λ e. let P : ℕ → Type 0 = λ z. Le (scaled f.period (value_at f z)) (At (times z f.step -ℤ pos 1)) in subst P (sym e) (lossy n))
          (λ l. (old.when_not n).2 c u (omega arith))
          (eq-or-lt_of_le {n = c} {m = suc m} w),
    );
  }

  replaced : (m : ℕ) (a : Anchor) (v : ℤ) → AnchorIs f m a → value_at f (suc m) ≡ At v → times (suc m) a.value ≤ℤ times a.shift v
      → AnchorIs f (suc m) (record { found = true; shift = suc m; value = v })
  replaced m a v old e h = record {
    positive = omega arith;
    slow = ratio_trans a.shift (suc m) f.period f.step a.value v old.positive old.slow h;
    cheap = λ c u w. ⊎_elim
        (λ g. le_is (ap (scaled (suc m)) (ap (value_at f) g ∙ e) ∙ ap (λ (z : ℕ). At (times z v)) (sym g)))
        (λ l. ratio_trans_date a.shift (suc m) c (value_at f c) a.value v old.positive (old.cheap c u (omega arith)) h)
        (eq-or-lt_of_le {n = c} {m = suc m} w);
    when_found = λ _. (e, omega arith);
    when_not = λ n. absurd cc;
  }

  stepped : (m : ℕ) (a : Anchor) (d : Date) → AnchorIs f m a → value_at f (suc m) ≡ d → (d ≡ Never → ⊥) → AnchorIs f (suc m) (anchor_step a (suc m) d)
  stepped m a Early old e some = kept m a old
      (le_trans (le_is (ap (scaled a.shift) e)) (early_le (At (times (suc m) a.value))))
      (λ _. le_trans (le_is (ap (scaled f.period) e)) (early_le (At (times (suc m) f.step -ℤ pos 1))))
  stepped m a (At v) old e some = by_found a.found (beats a (suc m) v) refl refl where
    by_found : (b t : Bool) → a.found ≡ b → beats a (suc m) v ≡ t → AnchorIs f (suc m) (cond (beats a (suc m) v) (record { found = true; shift = suc m; value = v }) a)
    by_found true true g h = rw h (replaced m a v old e
        (let k : int_lt (times (suc m) a.value) (times a.shift v) ≡ true =
        sym (ap (λ (z : Bool). cond z (int_lt (times (suc m) a.value) (times a.shift v)) (not (int_lt (times a.shift v) (times (suc m) a.value)))) g) ∙ h in
        let l : (times (suc m) a.value +ℤ pos 1) ≤ℤ times a.shift v = is_lt (times (suc m) a.value) (times a.shift v) k in omega (arith, ints)))
    by_found true false g h = rw h (kept m a old
        (let k : int_lt (times (suc m) a.value) (times a.shift v) ≡ false =
        sym (ap (λ (z : Bool). cond z (int_lt (times (suc m) a.value) (times a.shift v)) (not (int_lt (times a.shift v) (times (suc m) a.value)))) g) ∙ h in
        le_trans (le_is (ap (scaled a.shift) e)) (record { holds = not_lt (times (suc m) a.value) (times a.shift v) k }))
        (λ n. absurd (let c : true ≡ false = sym g ∙ n in cc)))
    by_found false true g h = rw h (replaced m a v old e
        (let k : not (int_lt (times a.shift v) (times (suc m) a.value)) ≡ true =
        sym (ap (λ (z : Bool). cond z (int_lt (times (suc m) a.value) (times a.shift v)) (not (int_lt (times a.shift v) (times (suc m) a.value)))) g) ∙ h in
        not_lt (times a.shift v) (times (suc m) a.value) (not_true (int_lt (times a.shift v) (times (suc m) a.value)) k))) where
          not_true : (b : Bool) → not b ≡ true → b ≡ false
          not_true true q = cc
          not_true false q = refl
    by_found false false g h = rw h
        (let k : not (int_lt (times a.shift v) (times (suc m) a.value)) ≡ false =
        sym (ap (λ (z : Bool). cond z (int_lt (times (suc m) a.value) (times a.shift v)) (not (int_lt (times a.shift v) (times (suc m) a.value)))) g) ∙ h in
        let l : (times a.shift v +ℤ pos 1) ≤ℤ times (suc m) a.value = is_lt (times a.shift v) (times (suc m) a.value) (not_false (int_lt (times a.shift v) (times (suc m) a.value)) k) in
        let p : a.shift ≡ f.period = (old.when_not g).0 in
        let q : a.value ≡ f.step = (old.when_not g).1 in
        let low : Le (scaled a.shift (At v)) (At (times (suc m) a.value -ℤ pos 1)) = record { holds = omega (arith, ints) } in
        let mine : Le (scaled f.period (At v)) (At (times (suc m) f.step -ℤ pos 1)) =
        subst (λ (z : ℤ). Le (scaled f.period (At v)) (At (times (suc m) z -ℤ pos 1))) q (subst (λ (z : ℕ). Le (scaled z (At v)) (At (times (suc m) a.value -ℤ pos 1))) p low) in
        kept m a old (le_trans (le_is (ap (scaled a.shift) e)) (record { holds = omega (arith, ints) })) (λ n. le_trans (le_is (ap (scaled f.period) e)) mine)) where
          not_false : (b : Bool) → not b ≡ false → b ≡ true
          not_false true q = refl
          not_false false q = cc
  stepped m a Never old e some = absurd (some refl)

  pub anchor_is : (m : ℕ) → ((c : ℕ) → value_at f c ≡ Never → ⊥) → AnchorIs f m (anchor_upto f m)
  anchor_is zero some = record {
    positive = is.period_positive;
    slow = omega (arith, ints);
    cheap = λ c u w. absurd (omega arith);
    when_found = λ n. absurd cc;
    when_not = λ _. (refl, refl, λ c u w. absurd (omega arith));
  }
  anchor_is (suc m) some = stepped m (anchor_upto f m) (value_at f (suc m)) (anchor_is m some) refl (some (suc m))

-- ---- the form of shift 1 and date 0

from_one_rises : Rising from_one
from_one_rises = record { rises = λ j k w. by_shift j k w } where
  by_shift : (j k : ℕ) → j ≤ k → Le (from_one j) (from_one k)
  by_shift zero k w = early_le (from_one k)
  by_shift (suc j) zero w = absurd (omega arith)
  by_shift (suc j) (suc k) w = le_refl (At (pos 0))

pub one_shift_values : HasValues one_shift from_one
one_shift_values = form_values from_one 1 1 (pos 0) (omega arith) (record { at = λ k w. by_shift k w }) where
  by_shift : (k : ℕ) → 1 ≤ k → from_one (k + 1) ≡ move (pos 0) (from_one k)
  by_shift zero w = absurd (omega arith)
  by_shift (suc k) w = let e : suc k + 1 ≡ suc (suc k) = omega arith in ap from_one e

pub one_shift_is : IsForm one_shift
one_shift_is = record {
  period_positive = omega arith;
  period_fits = omega arith;
  rising = record { rises = λ j k w. le_trans (le_is (one_shift_values j)) (le_trans (from_one_rises.rises j k w) (le_is (sym (one_shift_values k)))) };
  tail = λ h. (refl, refl);
}

same_star : (s t : ℕ → Date) (k : ℕ) (x : Date) → ((j : ℕ) → s j ≡ t j) → IsStarAt s k x → IsStarAt t k x
same_star s t k x e h = let p : s ≡ t = λ i j. e j i in let P : (ℕ → Date) → Type 0 = λ z. IsStarAt z k x in subst P p h

le_natural : (z : ℤ) → z ≤ℤ pos (natural_of z)
le_natural (pos n) = omega (arith, ints)
le_natural (negsuc n) = omega (arith, ints)

-- the star of a form that is at least 0 from shift 1 on, and at most 0 at shift 0
module _ (g : Form) (is : IsForm g) (star : ℕ → Date) (stars : (k : ℕ) → IsStarAt (value_at g) k (star k)) (high : Le (At (pos 0)) (value_at g 1)) (low : Le (value_at g 0) (At (pos 0))) where
  own_at : (t : ℤ) → tail_of g ≡ At t → Serves star (anchored_plan (anchor_of g) g)
  own_at t e = by_found (anchor_of g).found refl where
    n : ℕ
    n = g.period

    fits : g.period ≤ size_of g
    fits = is.period_fits

    whole : repeat_start g + g.period ≡ size_of g
    whole = omega (arith, fits)

    number : (c : ℕ) → repeat_start g ≤ c → (v : ℤ) × (value_at g c ≡ At v)
    number c w = tail_number g t is e c w

    some : (c : ℕ) → value_at g c ≡ Never → ⊥
    some c h = let v : (x : ℤ) × (value_at g (c + repeat_start g) ≡ At x) = number (c + repeat_start g) (omega arith) in
        let last : value_at g (c + repeat_start g) ≡ Never = never_le (le_trans (le_is (sym h)) (is.rising.rises c (c + repeat_start g) (omega arith))) in
        absurd (let q : At v.0 ≡ Never = sym v.1 ∙ last in cc)

    known : AnchorIs g (size_of g - 1) (anchor_of g)
    known = anchor_is g is (size_of g - 1) some

    own : Repeats (value_at g) (repeat_start g) g.period g.step
    own = form_repeats_own g is

    -- the anchor also covers the shift after the list
    cheap_start : Le (scaled (anchor_of g).shift (value_at g (repeat_start g))) (At (times (repeat_start g) (anchor_of g).value))
    cheap_start = ⊎_elim
        (λ zeros. let P : ℕ → Type 0 = λ z. Le (scaled (anchor_of g).shift (value_at g z)) (At (times z (anchor_of g).value)) in
        subst P (sym zeros) (le_trans (scaled_le (anchor_of g).shift low) (le_is (scaled_zero (anchor_of g).shift))))
        (λ more. known.cheap (repeat_start g) more (let w : g.period ≤ size_of g = fits in let u : 0 < g.period = is.period_positive in omega arith))
        (zero_or (repeat_start g)) where
          zero_or : (m : ℕ) → (m ≡ 0) ⊎ (0 < m)
          zero_or zero = inl refl
          zero_or (suc m) = inr (omega arith)

    cheap_last : Le (scaled (anchor_of g).shift (value_at g (repeat_start g + g.period))) (At (times (repeat_start g + g.period) (anchor_of g).value))
    cheap_last =
        let b : ℕ = (anchor_of g).shift in
        let a : ℤ = (anchor_of g).value in
        let slow : times b g.step ≤ℤ times g.period a = known.slow in
        let gain : Le (move (times b g.step) (At (times (repeat_start g) a))) (At (times (repeat_start g + g.period) a)) =
        let sum : times (repeat_start g + g.period) a ≡ times (repeat_start g) a +ℤ times g.period a = times_add (repeat_start g) g.period a in record { holds = omega (arith, ints) } in
        le_trans (le_is (ap (scaled b) (own.at (repeat_start g) (omega arith)) ∙ scaled_move b g.step (value_at g (repeat_start g)))) (le_trans (move_le (times b g.step) cheap_start) gain)

    cheap : (c : ℕ) → 0 < c → c ≤ repeat_start g + g.period → Le (scaled (anchor_of g).shift (value_at g c)) (At (times c (anchor_of g).value))
    cheap c u w = ⊎_elim
        (λ q. let P : ℕ → Type 0 = λ z. Le (scaled (anchor_of g).shift (value_at g z)) (At (times z (anchor_of g).value)) in subst P (sym q) cheap_last)
        (λ l. known.cheap c u (let x : repeat_start g + g.period ≡ size_of g = whole in omega arith))
        (eq-or-lt_of_le {n = c} {m = repeat_start g + g.period} w)

    losses : (c : ℕ) → repeat_start g ≤ c → c < repeat_start g + g.period → Le (At (times c g.step -ℤ pos (worst_loss g))) (scaled g.period (value_at g c))
    losses c u w =
        let i : ℕ = c - repeat_start g in
        let here : repeat_start g + i ≡ c = omega arith in
        let v : (x : ℤ) × (value_at g c ≡ At x) = number c u in
        let most : loss_of_part g (repeat_start g + i) ≤ℤ greatest_int (λ i. loss_of_part g (repeat_start g + i)) (g.period - 1) =
        le_greatest_int (λ i. loss_of_part g (repeat_start g + i)) (g.period - 1) i (omega arith) in
        let up : greatest_int (λ i. loss_of_part g (repeat_start g + i)) (g.period - 1) ≤ℤ pos (worst_loss g) = le_natural (greatest_int (λ i. loss_of_part g (repeat_start g + i)) (g.period - 1)) in
        let same : loss_of_part g (repeat_start g + i) ≡ times c g.step -ℤ times g.period v.0 = ap (loss_of_part g) here ∙ ap (λ d. gap (scaled g.period d) (At (times c g.step))) v.1 in
        let mine : Le (At (times c g.step -ℤ pos (worst_loss g))) (At (times g.period v.0)) = record { holds = omega (arith, ints) } in
        le_trans mine (le_is (ap (scaled g.period) (sym v.1)))

    by_found : (b : Bool) → (anchor_of g).found ≡ b → Serves star (anchored_plan (anchor_of g) g)
    by_found true h =
        let again : Repeats star ((anchor_of g).shift * (repeat_start g + g.period) + 1) (anchor_of g).shift (anchor_of g).value =
        star_repeats_anchored (value_at g) g.period g.step (anchor_of g).shift (anchor_of g).value known.positive (known.when_found h).0 star (repeat_start g) stars own is.period_positive
        (let near : (anchor_of g).shift ≤ size_of g - 1 = (known.when_found h).1 in let x : repeat_start g + g.period ≡ size_of g = whole in omega arith) cheap known.slow high in
        let P : NeedPlan → Type 0 = λ r. Serves star r in
        subst P (ap (λ (z : Bool). cond z (plan ((anchor_of g).shift * size_of g + 1) (anchor_of g).shift) (plan (size_of g * max (g.period + 1) (worst_loss g) + 1) g.period)) (sym h))
        (record { turns = known.positive; step = (anchor_of g).value; repeats = subst (λ (z : ℕ). Repeats star ((anchor_of g).shift * z + 1) (anchor_of g).shift (anchor_of g).value) whole again })
    by_found false h =
        let lossy : (c : ℕ) → 0 < c → c < repeat_start g + g.period → Le (scaled g.period (value_at g c)) (At (times c g.step -ℤ pos 1)) =
        λ c u w. (known.when_not h).2 c u (let x : repeat_start g + g.period ≡ size_of g = whole in omega arith) in
        let q : ℕ = size_of g * max (g.period + 1) (worst_loss g) + 1 in
        let x : repeat_start g + g.period ≡ size_of g = whole in
        let many : size_of g * worst_loss g ≤ size_of g * max (g.period + 1) (worst_loss g) = mul-le-mul_left (size_of g) (omega arith) in
        let two : size_of g * 1 ≤ size_of g * max (g.period + 1) (worst_loss g) = mul-le-mul_left (size_of g) (omega arith) in
        let turned : (repeat_start g + g.period) * worst_loss g ≡ size_of g * worst_loss g = ap (λ (z : ℕ). z * worst_loss g) whole in
        let again : Repeats star q g.period g.step =
        star_repeats_tail (value_at g) (repeat_start g) g.period (worst_loss g) g.step own is.period_positive low lossy losses star q stars high (omega arith) (omega arith) in
        let P : NeedPlan → Type 0 = λ r. Serves star r in
        subst P (ap (λ (z : Bool). cond z (plan ((anchor_of g).shift * size_of g + 1) (anchor_of g).shift) (plan (size_of g * max (g.period + 1) (worst_loss g) + 1) g.period)) (sym h))
        (record { turns = is.period_positive; step = g.step; repeats = again })

  own_serves : Serves star (own_plan g)
  own_serves = cases (tail_of g) refl where
    cases : (d : Date) → tail_of g ≡ d → Serves star (own_plan_by d g)
    cases Early e = absurd (let l : Le (At (pos 0)) Early = le_trans high (le_is (tail_early g is e 1)) in l.holds)
    cases (At t) e = own_at t e
    cases Never e =
        let fits : g.period ≤ size_of g = is.period_fits in
        let pos_n : 0 < g.period = is.period_positive in
        let never : (k : ℕ) → size_of g ≤ k → star k ≡ Never = λ k w. star_never (value_at g) star (repeat_start g) stars (tail_never g is e) k (omega arith) (omega arith) in
        record { turns = omega arith; step = pos 0; repeats = record { at = λ k w. never (k + 1) (omega arith) ∙ ap (move (pos 0)) (sym (never k w)) } }

at_least_serves : (s : ℕ → Date) (need : ℕ) (r : NeedPlan) → Serves s r → Serves s (at_least need r)
at_least_serves s need r h = record { turns = h.turns; step = h.step; repeats = repeats_later (max r.from (need - r.turn)) (omega arith) h.repeats }

pub parts_serves : (f : Form) → IsForm f → Le (value_at f 0) (At (pos 0)) → Serves (parts_star (value_at f)) (star_plan f)
parts_serves f is low =
    let g : Form = form_sum f one_shift in
    let isg : IsForm g = (form_sum_is f one_shift is one_shift_is).form in
    let values : (k : ℕ) → value_at g k ≡ with_one (value_at f) k = λ k. form_sum_values f one_shift is one_shift_is k ∙ ap (later_of (value_at f k)) (one_shift_values k) in
    let stars : (k : ℕ) → IsStarAt (value_at g) k (parts_star (value_at f) k) =
    λ k. same_star (with_one (value_at f)) (value_at g) k (parts_star (value_at f) k) (λ j. sym (values j)) (with_one_is (value_at f) is.rising k) in
    at_least_serves (parts_star (value_at f)) (need_of (sum_plan f one_shift)) (own_plan g)
    (own_serves g isg (parts_star (value_at f)) stars
    (le_trans (le_later_right (value_at f 1) (At (pos 0))) (le_is (sym (values 1))))
    (le_trans (le_is (values 0)) (later_le low (early_le (At (pos 0))))))

never_serves : Serves (λ _. Never) (plan 0 1)
never_serves = record { turns = omega arith; step = pos 0; repeats = record { at = λ k w. refl } }

pub star_serves : (f : Form) → IsForm f → Serves (star_at (value_at f)) (star_plan_by (value_at f 0) f)
star_serves f is = cases (value_at f 0) refl where
  cases : (d : Date) → value_at f 0 ≡ d → Serves (star_by d (value_at f)) (star_plan_by d f)
  cases Early e = parts_serves f is (le_trans (le_is e) (early_le (At (pos 0))))
  cases (At (pos zero)) e = parts_serves f is (le_is e)
  cases (At (pos (suc n))) e = never_serves
  cases (At (negsuc n)) e = parts_serves f is (le_trans (le_is e) (record { holds = omega (arith, ints) }))
  cases Never e = never_serves

pub star_at_rises : (s : ℕ → Date) → Rising s → Rising (star_at s)
star_at_rises s up = record { rises = λ j k w. cases (s 0) j k w } where
  cases : (d : Date) (j k : ℕ) → j ≤ k → Le (star_by d s j) (star_by d s k)
  cases Early j k w = star_rises s up j k w
  cases (At (pos zero)) j k w = star_rises s up j k w
  cases (At (pos (suc n))) j k w = le_refl Never
  cases (At (negsuc n)) j k w = star_rises s up j k w
  cases Never j k w = le_refl Never

pub form_star_is : (f : Form) → IsForm f → IsCanonical (form_star f)
form_star_is f is = served_is (star_at (value_at f)) (star_plan_by (value_at f 0) f) (star_at_rises (value_at f) is.rising) (star_serves f is)

pub form_star_values : (f : Form) → IsForm f → HasValues (form_star f) (star_at (value_at f))
form_star_values f is = served_values (star_at (value_at f)) (star_plan_by (value_at f 0) f) (star_at_rises (value_at f) is.rising) (star_serves f is)
