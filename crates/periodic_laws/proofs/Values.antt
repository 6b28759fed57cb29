-- Gains, and the functions of which their series have the values.
use Rattle.std.proofs.Common.{◌≡◌, refl, ap, arith, ℕ, pos, zero, suc, ◌+◌, ◌≤◌, ◌<◌, sym, ◌∙◌, ⊎_elim, true, false, ltb}
use Rattle.std.proofs.lemmas.Bool.{cases_lt}
use Rattle.std.proofs.lemmas.Bool.Decides.{nat_tests}
use Rattle.series_ops.specs.dioid.Dates.{later_of}
use Rattle.series_ops.specs.dioid.declared.dates.Date.{Date}
use Rattle.series_ops.specs.dioid.declared.dates.Date.TheVariants.{Early}
use Rattle.dioid_matrix.specs.Sums.{total_of_first}
use Rattle.series_ops.specs.dioid.DateOrder.{Le}
use Rattle.series_ops.specs.dioid.Dates.{move}
use Rattle.series_ops.proofs.dioid_proofs.AtMost.{le_is, le_trans, early_le, le_later_left, le_later_right, later_le}
use Rattle.series_ops.proofs.dioid_proofs.Moves.{move_zero}
use Rattle.series_ops.specs.series_laws.Periodic.{Rising, Repeats}
use Rattle.series_ops.specs.series_laws.Pointwise.{sum_at}
use Rattle.series_ops.specs.series_laws.SeriesForms.{value_at, HasValues, IsCanonical}
use Rattle.series_ops.proofs.series_laws_proofs.Canonical.{constant_is, canonical_is, canonical_values}
use Rattle.series_ops.proofs.series_laws_proofs.Sums.{form_sum_values}
use Rattle.series_ops.specs.series_laws.Product.{product_at}
use Rattle.series_ops.proofs.series_laws_proofs.Products.{form_product_values}
use Rattle.series_ops.specs.declared.gains.Gain.{Gain}
use Rattle.series_ops.specs.Gains.{gain_zero, gain_sum, gain_product}
use Rattle.series_ops.specs.Proved.GainLaws.{gains_closed}
use Rattle.periodic_laws.specs.Equations.{gains, stair}
use Rattle.periodic_laws.specs.GainColumns.{stair_gain}

-- the gain has the values of s
pub record Holds (g : Gain) (s : ℕ → Date) : Type 0 where
  pub is : IsCanonical g.series
  pub values : HasValues g.series s

pub holds_own : (g : Gain) → IsCanonical g.series → Holds g (value_at g.series)
holds_own g h = record { is = h; values = λ k. refl }

pub zero_holds : Holds gain_zero (λ _. Early)
zero_holds = record { is = gains_closed.zero_is; values = (constant_is Early refl).1 }

pub sum_holds : (a b : Gain) (s t : ℕ → Date) → Holds a s → Holds b t → Holds (gain_sum a b) (sum_at s t)
sum_holds a b s t h k = record {
  is = gains_closed.sum_is a b h.is k.is;
  values = λ m. form_sum_values a.series b.series h.is.form k.is.form m ∙ ap (λ z. later_of z (value_at b.series m)) (h.values m) ∙ ap (later_of (s m)) (k.values m);
}

pub product_holds : (a b : Gain) (s t : ℕ → Date) → Holds a s → Holds b t → Holds (gain_product a b) (product_at s t)
product_holds a b s t h k = record {
  is = gains_closed.product_is a b h.is k.is;
  values = λ m.
      let left : value_at a.series ≡ s = λ i n. h.values n i in
      let right : value_at b.series ≡ t = λ i n. k.values n i in
      form_product_values a.series b.series h.is.form k.is.form m ∙ ap (λ (z : ℕ → Date). product_at z (value_at b.series) m) left ∙ ap (λ (z : ℕ → Date). product_at s z m) right;
}

-- ---- sums

abbrev pub total_at : (ℕ → ℕ → Date) → ℕ → ℕ → Date
total_at g zero k = Early
total_at g (suc n) k = later_of (total_at g n k) (g n k)

pub total_holds : (f : ℕ → Gain) (g : ℕ → ℕ → Date) (n : ℕ) → ((j : ℕ) → Holds (f j) (g j)) → Holds (total_of_first gains f n) (total_at g n)
total_holds f g zero h = zero_holds
total_holds f g (suc n) h = sum_holds (total_of_first gains f n) (f n) (total_at g n) (g n) (total_holds f g n h) (h n)

pub le_total : (g : ℕ → ℕ → Date) (n j k : ℕ) → j < n → Le (g j k) (total_at g n k)
le_total g zero j k h = absurd (omega arith)
le_total g (suc n) j k h = ⊎_elim
    (λ (l : j < n). le_trans (le_total g n j k l) (le_later_left (total_at g n k) (g n k)))
    (λ (l : n ≤ j). let e : j ≡ n = omega arith in le_trans (le_is (ap (λ (z : ℕ). g z k) e)) (le_later_right (total_at g n k) (g n k)))
    (cases_lt j n)

pub total_le : (g : ℕ → ℕ → Date) (n k : ℕ) (c : Date) → ((j : ℕ) → j < n → Le (g j k) c) → Le (total_at g n k) c
total_le g zero k c h = early_le c
total_le g (suc n) k c h = later_le (total_le g n k c (λ j l. h j (omega arith))) (h n (omega arith))

-- ---- stairs

pub stair_before : (c : ℕ) (d : Date) (k : ℕ) → k < c → stair c d k ≡ Early
stair_before c d k h = let e : ltb k c ≡ true = grind (arith, nat_tests) in rw e refl

pub stair_from : (c : ℕ) (d : Date) (k : ℕ) → c ≤ k → stair c d k ≡ d
stair_from c d k h = let e : ltb k c ≡ false = grind (arith, nat_tests) in rw e refl

stair_rises : (c : ℕ) (d : Date) → Rising (stair c d)
stair_rises c d = record {
  rises = λ j k w. ⊎_elim
      (λ (l : j < c). le_trans (le_is (stair_before c d j l)) (early_le (stair c d k)))
      (λ (l : c ≤ j). le_is (stair_from c d j l ∙ sym (stair_from c d k (omega arith))))
      (cases_lt j c);
}

stair_repeats : (c : ℕ) (d : Date) → Repeats (stair c d) c 1 (pos 0)
stair_repeats c d = record { at = λ k w. stair_from c d (k + 1) (omega arith) ∙ sym (move_zero d) ∙ ap (move (pos 0)) (sym (stair_from c d k w)) }

pub stair_holds : (c : ℕ) (d : Date) → Holds (stair_gain c d) (stair c d)
stair_holds c d = record {
  is = canonical_is (stair c d) c 1 (pos 0) (stair_rises c d) (omega arith) (stair_repeats c d);
  values = canonical_values (stair c d) c 1 (pos 0) (stair_rises c d) (omega arith) (stair_repeats c d);
}
