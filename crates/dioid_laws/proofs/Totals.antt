-- Equations of sums of elements.
use Rattle.std.proofs.Common.{◌≡◌, ◌⊎◌, ℕ, zero, suc, ◌<◌, ◌≤◌, refl, ap, sym, ◌∙◌, arith, subst, ⊎_elim, inl, inr}
use Rattle.std.proofs.lemmas.Bool.{cases_lt}
use Rattle.dioid.specs.DioidAxioms.{IsClosed, DioidLaws}
use Rattle.dioid.specs.declared.algebra.Dioid.{Ghosts as DioidOf}
use Rattle.dioid_matrix.specs.Sums.{total_of_first}
use Rattle.dioid_matrix.proofs.Order.{Below, same, antisym, total_is, term_below, total_below}

-- two numbers are equal or not
pub equal_or_not : (i j : ℕ) → (i ≡ j) ⊎ (i ≡ j → ⊥)
equal_or_not i j = ⊎_elim
    (λ (l : i < j). inr (λ q. omega (arith, l, q)))
    (λ (l : j ≤ i). ⊎_elim (λ (m : j < i). inr (λ q. omega (arith, m, q))) (λ (m : i ≤ j). let q : i ≡ j = omega (arith, l, m) in inl q) (cases_lt j i))
    (cases_lt i j)

module _ {M : Type 0} (d : DioidOf M) (closed : IsClosed d.is_element d.zero d.one d.sum d.product) (laws : DioidLaws d.is_element d.zero d.one d.sum d.product) where
  -- equal terms
  pub total_same : (f g : ℕ → M) (n : ℕ) → ((j : ℕ) → j < n → f j ≡ g j) → total_of_first d f n ≡ total_of_first d g n
  total_same f g zero h = refl
  total_same f g (suc n) h = ap (λ z. d.sum z (f n)) (total_same f g n (λ j l. h j (omega arith))) ∙ ap (d.sum (total_of_first d g n)) (h n (omega arith))

  -- terms that are zero
  pub total_none : (f : ℕ → M) (n : ℕ) → ((j : ℕ) → j < n → f j ≡ d.zero) → total_of_first d f n ≡ d.zero
  total_none f zero h = refl
  total_none f (suc n) h = ap (λ z. d.sum z (f n)) (total_none f n (λ j l. h j (omega arith))) ∙ ap (d.sum d.zero) (h n (omega arith)) ∙ laws.zero_neutral d.zero closed.zero_is

  -- one term that is not zero
  pub total_one : (f : ℕ → M) (n i : ℕ) → i < n → ((j : ℕ) → d.is_element (f j)) → ((j : ℕ) → (j ≡ i → ⊥) → f j ≡ d.zero) → total_of_first d f n ≡ f i
  total_one f n i hi e h =
      let at : (j : ℕ) → Below d.is_element d.sum (f j) (f i) = λ j. ⊎_elim
      (λ (q : j ≡ i). let P : ℕ → Type 0 = λ k. Below d.is_element d.sum (f k) (f i) in subst P (sym q) (same closed laws (e i)))
      (λ (q : j ≡ i → ⊥). let P : M → Type 0 = λ z. Below d.is_element d.sum z (f i) in subst P (sym (h j q)) (record { low = closed.zero_is; high = e i; at_most = laws.zero_neutral (f i) (e i) }))
      (equal_or_not j i) in
      antisym closed laws (total_below d closed laws f n (f i) (e i) (λ j l. at j)) (term_below d closed laws f n i e hi)

  -- a product with a sum
  pub times_total : (a : M) (f : ℕ → M) (n : ℕ) → d.is_element a → ((j : ℕ) → d.is_element (f j)) → d.product a (total_of_first d f n) ≡ total_of_first d (λ j. d.product a (f j)) n
  times_total a f zero ea ef = laws.zero_absorbs_right a ea
  times_total a f (suc n) ea ef = laws.left_distributes a (total_of_first d f n) (f n) ea (total_is d closed laws f n ef) (ef n) ∙ ap (λ z. d.sum z (d.product a (f n))) (times_total a f n ea ef)

  pub total_times : (f : ℕ → M) (n : ℕ) (c : M) → ((j : ℕ) → d.is_element (f j)) → d.is_element c → d.product (total_of_first d f n) c ≡ total_of_first d (λ j. d.product (f j) c) n
  total_times f zero c ef ec = laws.zero_absorbs_left c ec
  total_times f (suc n) c ef ec = laws.right_distributes (total_of_first d f n) (f n) c (total_is d closed laws f n ef) (ef n) ec ∙ ap (λ z. d.sum z (d.product (f n) c)) (total_times f n c ef ec)

  regroup : (x y z w : M) → d.is_element x → d.is_element y → d.is_element z → d.is_element w → d.sum (d.sum x y) (d.sum z w) ≡ d.sum (d.sum x z) (d.sum y w)
  regroup x y z w ex ey ez ew =
      laws.sum_assoc x y (d.sum z w) ex ey (closed.sum_is z w ez ew)
      ∙ ap (d.sum x) (sym (laws.sum_assoc y z w ey ez ew) ∙ ap (λ v. d.sum v w) (laws.sum_commutes y z ey ez) ∙ laws.sum_assoc z y w ez ey ew)
      ∙ sym (laws.sum_assoc x z (d.sum y w) ex ez (closed.sum_is y w ey ew))

  -- a sum of sums
  pub total_sum : (f g : ℕ → M) (n : ℕ) → ((j : ℕ) → d.is_element (f j)) → ((j : ℕ) → d.is_element (g j))
      → total_of_first d (λ j. d.sum (f j) (g j)) n ≡ d.sum (total_of_first d f n) (total_of_first d g n)
  total_sum f g zero ef eg = sym (laws.zero_neutral d.zero closed.zero_is)
  total_sum f g (suc n) ef eg =
      ap (λ z. d.sum z (d.sum (f n) (g n))) (total_sum f g n ef eg)
      ∙ regroup (total_of_first d f n) (total_of_first d g n) (f n) (g n) (total_is d closed laws f n ef) (total_is d closed laws g n eg) (ef n) (eg n)

  -- rows before columns, or columns before rows
  pub total_turned : (f : ℕ → ℕ → M) (m n : ℕ) → ((i j : ℕ) → d.is_element (f i j)) → total_of_first d (λ i. total_of_first d (f i) n) m ≡ total_of_first d (λ j. total_of_first d (λ i. f i j) m) n
  total_turned f zero n e = sym (total_none (λ j. d.zero) n (λ j l. refl))
  total_turned f (suc m) n e =
      ap (λ z. d.sum z (total_of_first d (f m) n)) (total_turned f m n e)
      ∙ sym (total_sum (λ j. total_of_first d (λ i. f i j) m) (f m) n (λ j. total_is d closed laws (λ i. f i j) m (λ i. e i j)) (e m))
