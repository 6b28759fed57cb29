-- The square matrices over a dioid with stars have stars, and over one with residuals, residuals.
use Rattle.std.proofs.Common.{◌≡◌, ◌↔◌, ℕ, zero, suc, ◌<◌, ◌≤◌, ap, sym, subst, arith, ⊎_elim}
use Rattle.std.proofs.lemmas.Bool.{cases_lt}
use Rattle.dioid.specs.DioidAxioms.{IsAtMost, IsClosed, DioidLaws, StarLaws, ResidualLaws}
use Rattle.dioid.specs.declared.algebra.Dioid.{Ghosts as DioidOf}
use Rattle.dioid.specs.declared.algebra.Kleene.{Ghosts as KleeneOf}
use Rattle.dioid.specs.declared.algebra.Residuated.{Ghosts as ResiduatedOf}
use Rattle.dioid_matrix.specs.Sums.{dot}
use Rattle.dioid_matrix.specs.MatrixStars.{star_of, IsLeastSolution}
use Rattle.dioid_matrix.specs.Residuals.{residual_of, meet_below}
use Rattle.dioid_laws.specs.SquareMatrices.{IsSquare, square_sum, square_product, square_star, square_left, square_meet, SquaresHaveStars, SquaresHaveResiduals}
use Rattle.dioid_matrix.proofs.Least.{stars_are_least}
use Rattle.dioid_matrix.proofs.Greatest.{residuals_are_greatest}
use Rattle.dioid_laws.proofs.Totals.{total_same}
use Rattle.dioid_laws.proofs.Squares.{cut_in, cut_is, squares_at_most, entries_at_most, sums_are, products_are}

-- equal in both places
both_same : {M : Type 0} (P : M → M → Type 0) {a b x y : M} → a ≡ b → x ≡ y → P b y → P a x
both_same P {a} {b} {x} {y} e h k = subst (λ z. P z x) (sym e) (subst (λ z. P b z) (sym h) k)

module _ {M : Type 0} (d : DioidOf M) (n : ℕ) (closed : IsClosed d.is_element d.zero d.one d.sum d.product) (laws : DioidLaws d.is_element d.zero d.one d.sum d.product) where
  module _ (s : KleeneOf M) (stars : StarLaws d.is_element d.sum d.product s.star) where
    least_column : (a : ℕ → ℕ → M) (b : ℕ → M) → IsSquare d n a → ((i : ℕ) → d.is_element (b i)) → IsLeastSolution d n a b (λ i. dot d n (star_of d s n a i) b)
    least_column a b sa eb = (stars_are_least d s closed laws stars n a b sa.elements eb).1

    star_is : (a : ℕ → ℕ → M) → IsSquare d n a → IsSquare d n (square_star d s n a)
    star_is a sa = cut_is d n closed laws (star_of d s n a) (stars_are_least d s closed laws stars n a (λ i. d.zero) sa.elements (λ i. closed.zero_is)).0

    -- a row of the star with a column
    star_row : (a : ℕ → ℕ → M) (b : ℕ → M) (i : ℕ) → i < n → dot d n (square_star d s n a i) b ≡ dot d n (star_of d s n a i) b
    star_row a b i hi = total_same d closed laws (λ j. d.product (square_star d s n a i j) (b j)) (λ j. d.product (star_of d s n a i j) (b j)) n
        (λ j hj. ap (λ z. d.product z (b j)) (cut_in d n (star_of d s n a) i j hi hj))

    star_solves : (a b : ℕ → ℕ → M) → IsSquare d n a → IsSquare d n b
        → IsAtMost (square_sum d) (square_sum d (square_product d n a (square_product d n (square_star d s n a) b)) b)
        (square_product d n (square_star d s n a) b)
    star_solves a b sa sb =
        let product = products_are d n closed laws (square_star d s n a) b (star_is a sa) sb in
        squares_at_most d n closed laws (square_sum d (square_product d n a (square_product d n (square_star d s n a) b)) b) (square_product d n (square_star d s n a) b)
        (sums_are d n closed laws (square_product d n a (square_product d n (square_star d s n a) b)) b (products_are d n closed laws a (square_product d n (square_star d s n a) b) sa product) sb)
        product
        (λ i k hi hk.
        let column : ℕ → M = λ j. b j k in
        both_same (λ z w. IsAtMost d.sum (d.sum z (b i k)) w)
        (total_same d closed laws (λ j. d.product (a i j) (dot d n (square_star d s n a j) column)) (λ j. d.product (a i j) (dot d n (star_of d s n a j) column)) n
        (λ j hj. ap (d.product (a i j)) (star_row a column j hj)))
        (star_row a column i hi)
        ((least_column a column sa (λ j. sb.elements j k)).solves i hi))

    star_least : (a b x : ℕ → ℕ → M) → IsSquare d n a → IsSquare d n b → IsSquare d n x
        → IsAtMost (square_sum d) (square_sum d (square_product d n a x) b) x → IsAtMost (square_sum d) (square_product d n (square_star d s n a) b) x
    star_least a b x sa sb sx h =
        squares_at_most d n closed laws (square_product d n (square_star d s n a) b) x (products_are d n closed laws (square_star d s n a) b (star_is a sa) sb) sx
        (λ i k hi hk.
        let column : ℕ → M = λ j. b j k in
        let P : M → Type 0 = λ z. IsAtMost d.sum z (x i k) in
        subst P (sym (star_row a column i hi))
        ((least_column a column sa (λ j. sb.elements j k)).least (λ j. x j k) (λ j. sx.elements j k)
        (λ l hl. entries_at_most d n closed laws (square_sum d (square_product d n a x) b) x h l k) i hi))

    pub squares_have_stars : SquaresHaveStars d s n
    squares_have_stars = record { star_is = star_is; solves = star_solves; least = star_least }

  module _ (l : ResiduatedOf M) (residuals : ResidualLaws d.is_element d.sum d.product l.left l.meet) where
    meet_is : (f : ℕ → M) (m : ℕ) → ((i : ℕ) → d.is_element (f i)) → d.is_element (meet_below l f m)
    meet_is f zero e = e 0
    meet_is f (suc zero) e = e 0
    meet_is f (suc (suc m)) e = residuals.meet_is (meet_below l f (suc m)) (f (suc m)) (meet_is f (suc m) e) (e (suc m))

    left_is : (a b : ℕ → ℕ → M) → IsSquare d n a → IsSquare d n b → IsSquare d n (square_left d l n a b)
    left_is a b sa sb = cut_is d n closed laws (residual_of d l n a b)
        (λ j k. meet_is (λ i. l.left (a i j) (b i k)) n (λ i. residuals.left_is (a i j) (b i k) (sa.elements i j) (sb.elements i k)))

    square_meet_is : (a b : ℕ → ℕ → M) → IsSquare d n a → IsSquare d n b → IsSquare d n (square_meet d l n a b)
    square_meet_is a b sa sb = cut_is d n closed laws (λ i j. l.meet (a i j) (b i j)) (λ i j. residuals.meet_is (a i j) (b i j) (sa.elements i j) (sb.elements i j))

    galois_some : 1 ≤ n → (a x b : ℕ → ℕ → M) → IsSquare d n a → IsSquare d n x → IsSquare d n b
        → IsAtMost (square_sum d) (square_product d n a x) b ↔ IsAtMost (square_sum d) x (square_left d l n a b)
    galois_some hn a x b sa sx sb =
        let both = residuals_are_greatest d l closed laws residuals n n n a b hn sa.elements sb.elements x sx.elements in (
          (λ h. squares_at_most d n closed laws x (square_left d l n a b) sx (left_is a b sa sb)
              (λ j k hj hk. let P : M → Type 0 = λ z. IsAtMost d.sum (x j k) z in
              subst P (sym (cut_in d n (residual_of d l n a b) j k hj hk)) (both.0 (λ i m hi hm. entries_at_most d n closed laws (square_product d n a x) b h i m) j k hj hk))),
          (λ h. squares_at_most d n closed laws (square_product d n a x) b (products_are d n closed laws a x sa sx) sb
              (both.1 (λ j k hj hk. let P : M → Type 0 = λ z. IsAtMost d.sum (x j k) z in
              subst P (cut_in d n (residual_of d l n a b) j k hj hk) (entries_at_most d n closed laws x (square_left d l n a b) h j k)))),
        )

    -- of no rows both say nothing
    galois_none : n ≤ 0 → (a x b : ℕ → ℕ → M) → IsSquare d n a → IsSquare d n x → IsSquare d n b
        → IsAtMost (square_sum d) (square_product d n a x) b ↔ IsAtMost (square_sum d) x (square_left d l n a b)
    galois_none none a x b sa sx sb = (
      (λ h. squares_at_most d n closed laws x (square_left d l n a b) sx (left_is a b sa sb) (λ j k hj hk. absurd (omega arith))),
      (λ h. squares_at_most d n closed laws (square_product d n a x) b (products_are d n closed laws a x sa sx) sb (λ i k hi hk. absurd (omega arith))),
    )

    galois : (a x b : ℕ → ℕ → M) → IsSquare d n a → IsSquare d n x → IsSquare d n b → IsAtMost (square_sum d) (square_product d n a x) b ↔ IsAtMost (square_sum d) x (square_left d l n a b)
    galois a x b sa sx sb = ⊎_elim (λ (some : 0 < n). galois_some some a x b sa sx sb) (λ (none : n ≤ 0). galois_none none a x b sa sx sb) (cases_lt 0 n)

    meet_greatest : (x a b : ℕ → ℕ → M) → IsSquare d n x → IsSquare d n a → IsSquare d n b
        → IsAtMost (square_sum d) x (square_meet d l n a b) ↔ (IsAtMost (square_sum d) x a × IsAtMost (square_sum d) x b)
    meet_greatest x a b sx sa sb =
        let at = λ (i j : ℕ). residuals.meet_greatest (x i j) (a i j) (b i j) (sx.elements i j) (sa.elements i j) (sb.elements i j) in
        let entry : IsAtMost (square_sum d) x (square_meet d l n a b) → (i j : ℕ) → i < n → j < n → IsAtMost d.sum (x i j) (l.meet (a i j) (b i j)) = λ h i j hi hj.
        let P : M → Type 0 = λ z. IsAtMost d.sum (x i j) z in
        subst P (cut_in d n (λ i j. l.meet (a i j) (b i j)) i j hi hj) (entries_at_most d n closed laws x (square_meet d l n a b) h i j) in (
          (λ h. (
            squares_at_most d n closed laws x a sx sa (λ i j hi hj. ((at i j).0 (entry h i j hi hj)).0),
            squares_at_most d n closed laws x b sx sb (λ i j hi hj. ((at i j).0 (entry h i j hi hj)).1),
          )),
          (λ h. squares_at_most d n closed laws x (square_meet d l n a b) sx (square_meet_is a b sa sb)
              (λ i j hi hj. let P : M → Type 0 = λ z. IsAtMost d.sum (x i j) z in
              subst P (sym (cut_in d n (λ i j. l.meet (a i j) (b i j)) i j hi hj))
              ((at i j).1 (entries_at_most d n closed laws x a h.0 i j, entries_at_most d n closed laws x b h.1 i j)))),
        )

    pub squares_have_residuals : SquaresHaveResiduals d l n
    squares_have_residuals = record { left_is = left_is; meet_is = square_meet_is; galois = galois; meet_greatest = meet_greatest }
