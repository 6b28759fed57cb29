-- The product with a monomial.
use Rattle.std.proofs.Common.{◌≡◌, refl, ap, arith, ℕ, ℤ, ◌-◌, ◌≤◌, ◌<◌, sym, ◌∙◌, ⊎_elim, true, false, ltb}
use Rattle.std.proofs.lemmas.Bool.{cases_lt}
use Rattle.std.proofs.lemmas.Bool.Decides.{nat_tests}
use Rattle.dioid.specs.Dates.{date_product, move}
use Rattle.dioid.specs.DateOrder.{Le}
use Rattle.dioid.specs.declared.dates.Date.{Date}
use Rattle.dioid.specs.declared.dates.Date.TheVariants.{Early, At}
use Rattle.dioid.proofs.AtMost.{le_is, le_trans, le_antisym, early_le, move_le}
use Rattle.dioid.proofs.Moves.{product_is_move}
use Rattle.series_laws.specs.SeriesForms.{monomial_at}
use Rattle.series_laws.specs.Periodic.{Rising}
use Rattle.series_laws.specs.Product.{product_at, shifted}
use Rattle.series_laws.proofs.ProductsRepeat.{le_product, product_at_le}

pub monomial_below : (n : ℕ) (t : ℤ) (k : ℕ) → k < n → monomial_at n t k ≡ Early
monomial_below n t k w = let e : ltb k n ≡ true = grind (arith, nat_tests) in rw e refl

pub monomial_from : (n : ℕ) (t : ℤ) (k : ℕ) → n ≤ k → monomial_at n t k ≡ At t
monomial_from n t k w = let e : ltb k n ≡ false = grind (arith, nat_tests) in rw e refl

module _ (n : ℕ) (t : ℤ) (s : ℕ → Date) where
  shifted_below : (k : ℕ) → k < n → shifted n t s k ≡ Early
  shifted_below k w = let e : ltb k n ≡ true = grind (arith, nat_tests) in rw e refl

  shifted_from : (k : ℕ) → n ≤ k → shifted n t s k ≡ move t (s (k - n))
  shifted_from k w = let e : ltb k n ≡ false = grind (arith, nat_tests) in rw e refl

  -- a part below the shift of the monomial is Early, one from there on adds its date
  part_below : (i j : ℕ) → i < n → date_product (monomial_at n t i) (s j) ≡ Early
  part_below i j w = ap (λ (z : Date). date_product z (s j)) (monomial_below n t i w)

  part_from : (i j : ℕ) → n ≤ i → date_product (monomial_at n t i) (s j) ≡ move t (s j)
  part_from i j w = ap (λ (z : Date). date_product z (s j)) (monomial_from n t i w) ∙ product_is_move t (s j)

  product_le : Rising s → (k : ℕ) → n ≤ k → Le (product_at (monomial_at n t) s k) (move t (s (k - n)))
  product_le up k w = product_at_le (monomial_at n t) s k (move t (s (k - n))) (λ i j e. ⊎_elim
      (λ low. le_trans (le_is (part_below i j low)) (early_le (move t (s (k - n)))))
      (λ high. le_trans (le_is (part_from i j high)) (move_le t (up.rises j (k - n) (omega arith))))
      (cases_lt i n))

  pub monomial_product : Rising s → (k : ℕ) → product_at (monomial_at n t) s k ≡ shifted n t s k
  monomial_product up k = ⊎_elim
      (λ (low : k < n). le_antisym
      (product_at_le (monomial_at n t) s k (shifted n t s k) (λ i j e. le_trans (le_is (part_below i j (omega arith))) (early_le (shifted n t s k))))
      (le_trans (le_is (shifted_below k low)) (early_le (product_at (monomial_at n t) s k))))
      (λ (high : n ≤ k). le_antisym
      (le_trans (product_le up k high) (le_is (sym (shifted_from k high))))
      (le_trans (le_is (shifted_from k high ∙ sym (part_from n (k - n) (omega arith)))) (le_product (monomial_at n t) s n (k - n) k (omega arith))))
      (cases_lt k n)
