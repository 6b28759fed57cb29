-- The anchor of a star is the part of the greatest ratio, the least among equals.
use Rattle.std.proofs.Common.{◌≡◌, refl, arith, ℕ, ℤ, pos, zero, suc, ◌+◌, ◌-◌, ◌≤◌, ◌<◌, ◌+ℤ◌, ◌-ℤ◌, sym, ◌∙◌, subst, Bool, true, false, cond, not}
use Rattle.std.specs.Prelude.{◌≤ℤ◌, ◌<ℤ◌, int_lt}
use Rattle.std.proofs.lemmas.Int.{ints, by_lt_z}
use Rattle.std.proofs.lemmas.Bool.{not-true}
use Rattle.dioid.specs.declared.dates.Date.{Date}
use Rattle.dioid.specs.declared.dates.Date.TheVariants.{Early, At, Never}
use Rattle.dioid.specs.DateOrder.{Le}
use Rattle.dioid.proofs.AtMost.{le_is, le_trans, never_le}
use Rattle.series_laws.specs.Periodic.{times}
use Rattle.series_laws.specs.SeriesForms.{Form, size_of, repeat_start, value_at, IsForm}
use Rattle.series_laws.specs.Needs.{tail_of}
use Rattle.series_laws.proofs.Sums.{tail_number}
use Rattle.series_laws.specs.declared.plans.Anchor.{Anchor}
use Rattle.series_laws.specs.SeriesStars.{scaled}
use Rattle.series_laws.specs.ProductNeeds.{beats, anchor_step, anchor_upto, anchor_of}
use Rattle.series_laws.proofs.StarForms.{AnchorIs, anchor_is, ratio_trans, is_lt, not_lt}
use Rattle.series_laws.specs.Closure.{IsAnchorOf}

-- of dates that are numbers
number : (b : ℕ) (d : Date) (u w : ℤ) → d ≡ At u → Le (scaled b d) (At w) → times b u ≤ℤ w
number b d u w e h = let l : Le (At (times b u)) (At w) = subst (λ (z : Date). Le (scaled b z) (At w)) e h in l.holds

-- the value v at n has the greater ratio than that of a at b, and u at d at most that
strict : (b n d : ℕ) (a v u : ℤ) → 0 < d → times b u ≤ℤ times d a → (times n a +ℤ pos 1) ≤ℤ times b v → times n u <ℤ times d v
strict b n d a v u pos_d low high = by_lt_z (times n u) (times d v) (λ l. l)
    (λ h. absurd (let k : times b v ≤ℤ times n a = ratio_trans d b n v u a pos_d h low in omega (arith, ints)))

-- the value v at n has at least the ratio of a at b, and u at d less
strict_first : (b n d : ℕ) (a v u : ℤ) → 0 < n → times b u ≤ℤ (times d a -ℤ pos 1) → times n a ≤ℤ times b v → times n u <ℤ times d v
strict_first b n d a v u pos_n low high = by_lt_z (times n u) (times d v) (λ l. l)
    (λ h. absurd (let k : times d a ≤ℤ times b u = ratio_trans n d b a v u pos_n high h in omega (arith, ints)))

-- each value of a lesser shift has a lesser ratio
abbrev IsLeast : Form → Anchor → Type 0
IsLeast f a = (d : ℕ) (u : ℤ) → 0 < d → d < a.shift → value_at f d ≡ At u → times a.shift u <ℤ times d a.value

module _ (f : Form) (is : IsForm f) (some : (c : ℕ) → value_at f c ≡ Never → ⊥) where
  stepped : (m : ℕ) (a : Anchor) (d : Date) → AnchorIs f m a → (a.found ≡ true → IsLeast f a) → (anchor_step a (suc m) d).found ≡ true → IsLeast f (anchor_step a (suc m) d)
  stepped m a Early known old = old
  stepped m a Never known old = old
  stepped m a (At v) known old = by_beats (beats a (suc m) v) refl where
    by_found : (b : Bool) → a.found ≡ b → cond b (int_lt (times (suc m) a.value) (times a.shift v))
        (not (int_lt (times a.shift v) (times (suc m) a.value))) ≡ true → IsLeast f (record { found = true; shift = suc m; value = v })
    by_found true g h d u pos_d low e =
        strict a.shift (suc m) d a.value v u pos_d
        (number a.shift (value_at f d) u (times d a.value) e (known.cheap d pos_d (omega arith)))
        (is_lt (times (suc m) a.value) (times a.shift v) h)
    by_found false g h d u pos_d low e =
        let p : a.shift ≡ f.period = (known.when_not g).0 in
        let q : a.value ≡ f.step = (known.when_not g).1 in
        let lesser : times f.period u ≤ℤ (times d f.step -ℤ pos 1) = number f.period (value_at f d) u (times d f.step -ℤ pos 1) e ((known.when_not g).2 d pos_d (omega arith)) in
        let high : times (suc m) a.value ≤ℤ times a.shift v = not_lt (times a.shift v) (times (suc m) a.value) (not-true (int_lt (times a.shift v) (times (suc m) a.value)) h) in
        let with_step : times (suc m) f.step ≤ℤ times a.shift v = subst (λ (z : ℤ). times (suc m) z ≤ℤ times a.shift v) q high in
        let with_period : times (suc m) f.step ≤ℤ times f.period v = subst (λ (z : ℕ). times (suc m) f.step ≤ℤ times z v) p with_step in
        strict_first f.period (suc m) d f.step v u (omega arith) lesser with_period

    by_beats : (t : Bool) → beats a (suc m) v ≡ t → (cond t (record { found = true; shift = suc m; value = v }) a).found ≡ true
        → IsLeast f (cond t (record { found = true; shift = suc m; value = v }) a)
    by_beats true h = λ _. by_found a.found refl h
    by_beats false h = old

  least_upto : (m : ℕ) → (anchor_upto f m).found ≡ true → IsLeast f (anchor_upto f m)
  least_upto zero = λ h. absurd cc
  least_upto (suc m) = stepped m (anchor_upto f m) (value_at f (suc m)) (anchor_is f is m some) (least_upto m)

  anchored : IsAnchorOf f (anchor_of f)
  anchored =
      let fits : f.period ≤ size_of f = is.period_fits in
      let pos_n : 0 < f.period = is.period_positive in
      let known : AnchorIs f (size_of f - 1) (anchor_of f) = anchor_is f is (size_of f - 1) some in
      record {
        found = λ h. record {
          positive = known.positive;
          listed = let l : (anchor_of f).shift ≤ size_of f - 1 = (known.when_found h).1 in omega arith;
          value = (known.when_found h).0;
          step = known.slow;
          greatest = λ d u pos_d low e. number (anchor_of f).shift (value_at f d) u (times d (anchor_of f).value) e (known.cheap d pos_d (omega arith));
          least = least_upto (size_of f - 1) h;
        };
        none = λ h d u pos_d low e.
            let l : times f.period u ≤ℤ (times d f.step -ℤ pos 1) = number f.period (value_at f d) u (times d f.step -ℤ pos 1) e ((known.when_not h).2 d pos_d (omega arith)) in
            omega (arith, ints);
      }

pub anchor_law : (f : Form) (t : ℤ) → IsForm f → tail_of f ≡ At t → IsAnchorOf f (anchor_of f)
anchor_law f t is e = anchored f is some where
  some : (c : ℕ) → value_at f c ≡ Never → ⊥
  some c h =
      let v : (x : ℤ) × (value_at f (c + repeat_start f) ≡ At x) = tail_number f t is e (c + repeat_start f) (omega arith) in
      let last : value_at f (c + repeat_start f) ≡ Never = never_le (le_trans (le_is (sym h)) (is.rising.rises c (c + repeat_start f) (omega arith))) in
      let q : At v.0 ≡ Never = sym v.1 ∙ last in cc
