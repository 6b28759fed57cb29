-- Sums and products of gains, shift by shift.
use Rattle.std.proofs.Common.{ℕ, zero, suc, ◌+◌, ◌<◌, ◌≤◌, ◌≡◌, refl, sym, ap, subst, ◌∙◌, arith, ⊎_elim}
use Rattle.std.proofs.lemmas.Bool.{cases_lt}
use Rattle.series_ops.specs.dioid.declared.dates.Date.{Date}
use Rattle.series_ops.specs.dioid.declared.dates.Date.TheVariants.{Early}
use Rattle.series_ops.specs.dioid.Dates.{later_of, date_product}
use Rattle.series_ops.specs.dioid.DateOrder.{Le}
use Rattle.series_ops.proofs.dioid_proofs.AtMost.{le_refl, le_is, le_trans, le_antisym, early_le, le_later_left, le_later_right, later_le}
use Rattle.series_ops.specs.series_laws.SeriesForms.{value_at}
use Rattle.series_ops.specs.series_laws.Product.{product_at}
use Rattle.series_ops.proofs.series_laws_proofs.Canonical.{constant_is, one_canonical}
use Rattle.series_ops.proofs.series_laws_proofs.Sums.{form_sum_values}
use Rattle.series_ops.proofs.series_laws_proofs.Products.{form_product_values}
use Rattle.series_ops.proofs.series_laws_proofs.ProductsRepeat.{le_product, product_at_le}
use Rattle.series_ops.specs.declared.gains.Gain.{Gain}
use Rattle.series_ops.specs.Gains.{IsCanonicalGain, gain_of, gain_sum, gain_product}
use Rattle.series_ops.specs.Proved.GainLaws.{gains_closed, gain_laws}
use Rattle.dioid_matrix.specs.Sums.{dot}
use Rattle.dioid_matrix.proofs.Order.{total_is}
use Rattle.teg_settle.specs.periodic_laws.Equations.{gains}

pub sum_value : (a b : Gain) → IsCanonicalGain a → IsCanonicalGain b → (k : ℕ) → value_at (gain_sum a b).series k ≡ later_of (value_at a.series k) (value_at b.series k)
sum_value a b ca cb k = form_sum_values a.series b.series ca.form cb.form k

product_value : (a b : Gain) → IsCanonicalGain a → IsCanonicalGain b → (k : ℕ) → value_at (gain_product a b).series k ≡ product_at (value_at a.series) (value_at b.series) k
product_value a b ca cb k = form_product_values a.series b.series ca.form cb.form k

-- a gain whose values are no later is at most the other
pub at_most_of_values : (a b : Gain) → IsCanonicalGain a → IsCanonicalGain b → ((k : ℕ) → Le (value_at a.series k) (value_at b.series k)) → gain_sum a b ≡ b
at_most_of_values a b ca cb h =
    ap gain_of (one_canonical (gain_sum a b).series b.series (gains_closed.sum_is a b ca cb) cb
    (λ k. sum_value a b ca cb k ∙ le_antisym (later_le (h k) (le_refl (value_at b.series k))) (le_later_right (value_at a.series k) (value_at b.series k))))

pub values_at_most : (a b : Gain) → IsCanonicalGain a → IsCanonicalGain b → gain_sum a b ≡ b → (k : ℕ) → Le (value_at a.series k) (value_at b.series k)
values_at_most a b ca cb e k =
    le_trans (le_later_left (value_at a.series k) (value_at b.series k)) (le_is (sym (sum_value a b ca cb k) ∙ ap (λ (g : Gain). value_at g.series k) e))

module _ (f g : ℕ → Gain) (cf : (j : ℕ) → IsCanonicalGain (f j)) (cg : (j : ℕ) → IsCanonicalGain (g j)) where
  pub dot_is : (n : ℕ) → IsCanonicalGain (dot gains n f g)
  dot_is n = total_is gains gains_closed gain_laws (λ j. gain_product (f j) (g j)) n (λ j. gains_closed.product_is (f j) (g j) (cf j) (cg j))

  product_is : (j : ℕ) → IsCanonicalGain (gain_product (f j) (g j))
  product_is j = gains_closed.product_is (f j) (g j) (cf j) (cg j)

  last_value : (n k : ℕ) → value_at (dot gains (suc n) f g).series k ≡ later_of (value_at (dot gains n f g).series k) (value_at (gain_product (f n) (g n)).series k)
  last_value n k = sum_value (dot gains n f g) (gain_product (f n) (g n)) (dot_is n) (product_is n) k

  -- each product of two values counts
  pub le_dot : (n j : ℕ) → j < n → (m e k : ℕ) → m + e ≡ k → Le (date_product (value_at (f j).series m) (value_at (g j).series e)) (value_at (dot gains n f g).series k)
  le_dot zero j l m e k q = absurd (omega arith)
  le_dot (suc n) j l m e k q = le_trans
      (⊎_elim
      (λ (w : j < n). le_trans (le_dot n j w m e k q) (le_later_left (value_at (dot gains n f g).series k) (value_at (gain_product (f n) (g n)).series k)))
      (λ (w : n ≤ j).
      let same : n ≡ j = omega (arith, w, l) in
      let own : Le (date_product (value_at (f n).series m) (value_at (g n).series e)) (value_at (gain_product (f n) (g n)).series k) =
      le_trans (le_product (value_at (f n).series) (value_at (g n).series) m e k q) (le_is (sym (product_value (f n) (g n) (cf n) (cg n) k))) in
      le_trans (subst (λ (z : ℕ). Le (date_product (value_at (f z).series m) (value_at (g z).series e)) (value_at (gain_product (f n) (g n)).series k)) same own)
      (le_later_right (value_at (dot gains n f g).series k) (value_at (gain_product (f n) (g n)).series k)))
      (cases_lt j n))
      (le_is (sym (last_value n k)))

  -- and nothing else
  pub dot_le : (n k : ℕ) (c : Date) → ((j m e : ℕ) → j < n → m + e ≡ k → Le (date_product (value_at (f j).series m) (value_at (g j).series e)) c) → Le (value_at (dot gains n f g).series k) c
  dot_le zero k c h = le_trans (le_is ((constant_is Early refl).1 k)) (early_le c)
  dot_le (suc n) k c h = le_trans (le_is (last_value n k)) (later_le
      (dot_le n k c (λ j m e l q. h j m e (omega arith) q))
      (le_trans (le_is (product_value (f n) (g n) (cf n) (cg n) k)) (product_at_le (value_at (f n).series) (value_at (g n).series) k c (λ m e q. h n m e (omega arith) q))))
