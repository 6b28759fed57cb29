-- The greatest x for which the product of a and x is at most b.
use Rattle.std.proofs.Common.{◌≡◌, ℕ, zero, suc, ◌<◌, ◌≤◌, sym, arith, subst, ⊎_elim}
use Rattle.std.proofs.Math.Nat.{eq-or-lt_of_le}
use Rattle.dioid.specs.DioidAxioms.{IsAtMost, IsClosed, DioidLaws, ResidualLaws}
use Rattle.dioid.specs.declared.algebra.Dioid.{Ghosts as DioidOf}
use Rattle.dioid.specs.declared.algebra.Residuated.{Ghosts as ResiduatedOf}
use Rattle.dioid_matrix.specs.Sums.{dot}
use Rattle.dioid_matrix.specs.Residuals.{meet_below, residual_of, IsGreatest}
use Rattle.dioid_matrix.proofs.Order.{trans, total_is, term_below, total_below}

module _ {M : Type 0} (d : DioidOf M) (u : ResiduatedOf M) (closed : IsClosed d.is_element d.zero d.one d.sum d.product)
    (laws : DioidLaws d.is_element d.zero d.one d.sum d.product) (residuals : ResidualLaws d.is_element d.sum d.product u.left u.meet) where
  meet_is : (f : ℕ → M) (n : ℕ) → ((i : ℕ) → d.is_element (f i)) → d.is_element (meet_below u f n)
  meet_is f zero e = e 0
  meet_is f (suc zero) e = e 0
  meet_is f (suc (suc n)) e = residuals.meet_is _ _ (meet_is f (suc n) e) (e (suc n))

  -- what is below each value is below their meet, and back
  under_meet : (f : ℕ → M) (n : ℕ) (x : M) → d.is_element x → ((i : ℕ) → d.is_element (f i)) → ((i : ℕ) → i < suc n → IsAtMost d.sum x (f i)) → IsAtMost d.sum x (meet_below u f (suc n))
  under_meet f zero x ex ef h = h 0 (omega arith)
  under_meet f (suc n) x ex ef h = (residuals.meet_greatest x (meet_below u f (suc n)) (f (suc n)) ex (meet_is f (suc n) ef)
      (ef (suc n))).1 (under_meet f n x ex ef (λ i l. h i (omega arith)), h (suc n) (omega arith))

  each_under : (f : ℕ → M) (n : ℕ) (x : M) → d.is_element x → ((i : ℕ) → d.is_element (f i)) → IsAtMost d.sum x (meet_below u f (suc n)) → (i : ℕ) → i < suc n → IsAtMost d.sum x (f i)
  each_under f zero x ex ef h i l = let q : 0 ≡ i = omega arith in subst (λ (k : ℕ). IsAtMost d.sum x (f k)) q h
  each_under f (suc n) x ex ef h i l =
      let parts = (residuals.meet_greatest x (meet_below u f (suc n)) (f (suc n)) ex (meet_is f (suc n) ef) (ef (suc n))).0 h in
      ⊎_elim (λ q. subst (λ (k : ℕ). IsAtMost d.sum x (f k)) (sym q) parts.1) (λ m. each_under f n x ex ef parts.0 i m) (eq-or-lt_of_le {n = i} {m = suc n} (omega arith))

  below_all : (middle : ℕ) (a b x : ℕ → ℕ → M) → ((i j : ℕ) → d.is_element (a i j)) → ((i j : ℕ) → d.is_element (b i j)) → ((i j : ℕ) → d.is_element (x i j)) → (i k : ℕ)
      → IsAtMost d.sum (dot d middle (a i) (λ j. x j k)) (b i k) → (j : ℕ) → j < middle → IsAtMost d.sum (d.product (a i j) (x j k)) (b i k)
  below_all middle a b x ea eb ex i k h j hj =
      let e : (j : ℕ) → d.is_element (d.product (a i j) (x j k)) = λ j. closed.product_is _ _ (ea i j) (ex j k) in
      (trans closed laws (term_below d closed laws (λ j. d.product (a i j) (x j k)) middle j e hj)
      (record { low = total_is d closed laws (λ j. d.product (a i j) (x j k)) middle e; high = eb i k; at_most = h })).at_most

  pub residuals_are_greatest : (rows middle columns : ℕ) (a b : ℕ → ℕ → M) → 1 ≤ rows → ((i j : ℕ) → d.is_element (a i j))
      → ((i j : ℕ) → d.is_element (b i j)) → IsGreatest d rows middle columns a b (residual_of d u rows a b)
  residuals_are_greatest zero middle columns a b hr ea eb x ex = absurd (omega arith)
  residuals_are_greatest (suc n) middle columns a b hr ea eb x ex =
      let left_is : (j k i : ℕ) → d.is_element (u.left (a i j) (b i k)) = λ j k i. residuals.left_is _ _ (ea i j) (eb i k) in (
        (λ h j k hj hk. under_meet (λ i. u.left (a i j) (b i k)) n (x j k) (ex j k) (left_is j k)
            (λ i hi. (residuals.galois (a i j) (x j k) (b i k) (ea i j) (ex j k) (eb i k)).0 (below_all middle a b x ea eb ex i k (h i k hi hk) j hj))),
        (λ h i k hi hk. (total_below d closed laws (λ j. d.product (a i j) (x j k)) middle (b i k) (eb i k) (λ j hj. record {
          low = closed.product_is _ _ (ea i j) (ex j k);
          high = eb i k;
          at_most = (residuals.galois (a i j) (x j k) (b i k) (ea i j) (ex j k) (eb i k)).1 (each_under (λ i. u.left (a i j) (b i k)) n (x j k) (ex j k) (left_is j k) (h j k hj hk) i hi);
        })).at_most),
      )
