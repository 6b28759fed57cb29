-- The right residual of two tables is the transpose of the left residual of their transposes, where products commute.
use Rattle.std.proofs.Common.{◌≡◌, ℕ, zero, suc, ◌+◌, ◌*◌, ◌<◌, ◌≤◌, sym, ap, subst, ◌∙◌, arith, ⊎_elim}
use Rattle.std.specs.Prelude.{◌⊎◌}
use Rattle.dioid.specs.DioidAxioms.{DioidLaws, IsAtMost, IsClosed}
use Rattle.dioid.specs.declared.algebra.Dioid.{Ghosts as DioidOf}
use Rattle.dioid.specs.declared.algebra.Residuated.{Ghosts as ResiduatedOf}
use Rattle.dioid_matrix.specs.Residuals.{IsResidual, ResidualRefused, ResidueFits, RowFits, lefts, meet_below}
use Rattle.dioid_matrix.specs.Sums.{dot}
use Rattle.dioid_matrix.specs.Tables.{AreElements, Table, entry_of}
use Rattle.dioid_matrix.specs.declared.refusals.MatrixRefused.{MatrixRefused}
use Rattle.dioid_matrix.specs.declared.refusals.MatrixRefused.TheVariants.{Count, Shape, Range, OutOfMemory}
use Rattle.dioid_laws.specs.Commuting.{ProductsCommute}
use Rattle.dioid_laws.proofs.Totals.{total_same}
use Rattle.dioid_spectra.specs.MadeMatrices.{IsTranspose}
use Rattle.matrix_values.specs.RightResiduals.{IsRightResidual, RightResidualRefused, RightResidueFits, right_residual_of, turned_refusal}

-- ---- equal factors

-- the meet of equal values
meets_same : {M : Type 0} (l : ResiduatedOf M) (f g : ℕ → M) (n : ℕ) → 1 ≤ n → ((k : ℕ) → k < n → f k ≡ g k) → meet_below l f n ≡ meet_below l g n
meets_same l f g zero some h = absurd (omega (arith, some))
meets_same l f g (suc zero) some h = h 0 (omega arith)
meets_same l f g (suc (suc n)) some h =
    ap (λ z. l.meet z (f (suc n))) (meets_same l f g (suc n) (omega arith) (λ k m. h k (omega (arith, m)))) ∙ ap (l.meet (meet_below l g (suc n))) (h (suc n) (omega arith))

module _ {M : Type 0} (d : DioidOf M) (l : ResiduatedOf M) (n : ℕ) (f g u v : ℕ → M) (one : (k : ℕ) → k < n → f k ≡ u k) (other : (k : ℕ) → k < n → g k ≡ v k) where
  lefts_same : (k : ℕ) → k < n → lefts d l f g k ≡ lefts d l u v k
  lefts_same k m = ap (λ z. l.left z (g k)) (one k m) ∙ ap (l.left (u k)) (other k m)

  residue_same : 1 ≤ n → meet_below l (lefts d l f g) n ≡ meet_below l (lefts d l u v) n
  residue_same some = meets_same l (lefts d l f g) (lefts d l u v) n some lefts_same

  row_fits_same : (k : ℕ) → k < n → RowFits d l f g k → RowFits d l u v k
  row_fits_same k m h = (
    subst (λ (z : M). l.left_fits z (v k)) (one k m) (subst (λ (z : M). l.left_fits (f k) z) (other k m) h.0),
    λ some. subst (λ (z : M). l.meet_fits z (l.left (u k) (v k)))
        (meets_same l (lefts d l f g) (lefts d l u v) k (omega (arith, some)) (λ j q. lefts_same j (omega (arith, m, q))))
        (subst (λ (z : M). l.meet_fits (meet_below l (lefts d l f g) k) z) (lefts_same k m) (h.1 some)),
  )

-- ---- transposes

module _ {M : Type 0} (d : DioidOf M) (l : ResiduatedOf M) (a b left right : Table M) (turned : IsTranspose d a left) (other : IsTranspose d b right) (goes : a.columns ≡ b.columns) where
  wide : left.rows ≡ a.columns
  wide = turned.rows_are

  high : left.columns ≡ a.rows
  high = turned.columns_are

  across : right.columns ≡ b.rows
  across = other.columns_are

  -- a column of a transpose is a row
  of_divisor : (j : ℕ) → j < a.rows → (k : ℕ) → k < a.columns → entry_of d left k j ≡ entry_of d a j k
  of_divisor j hj k hk = turned.entries k j hk hj

  of_bound : (i : ℕ) → i < b.rows → (k : ℕ) → k < a.columns → entry_of d right k i ≡ entry_of d b i k
  of_bound i hi k hk = other.entries k i (omega (arith, goes, hk)) hi

  fits_there : (i j : ℕ) → i < b.rows → j < a.rows → ResidueFits d l left.rows (entry_of d left) (entry_of d right) j i
      → RightResidueFits d l a.columns (entry_of d a) (entry_of d b) i j
  fits_there i j hi hj h k hk =
      row_fits_same d l a.columns (λ k. entry_of d left k j) (λ k. entry_of d right k i) (entry_of d a j) (entry_of d b i) (of_divisor j hj) (of_bound i hi) k hk
      (h k (omega (arith, wide, hk)))

  row_back : (i j : ℕ) → i < b.rows → j < a.rows → (k : ℕ) → k < a.columns → RowFits d l (entry_of d a j) (entry_of d b i) k
      → RowFits d l (λ k. entry_of d left k j) (λ k. entry_of d right k i) k
  row_back i j hi hj =
      row_fits_same d l a.columns (entry_of d a j) (entry_of d b i) (λ k. entry_of d left k j) (λ k. entry_of d right k i)
      (λ k hk. sym (of_divisor j hj k hk)) (λ k hk. sym (of_bound i hi k hk))

  row_there : (i j : ℕ) → i < b.rows → j < a.rows → (k : ℕ) → k < a.columns → RowFits d l (λ k. entry_of d left k j) (λ k. entry_of d right k i) k
      → RowFits d l (entry_of d a j) (entry_of d b i) k
  row_there i j hi hj =
      row_fits_same d l a.columns (λ k. entry_of d left k j) (λ k. entry_of d right k i) (entry_of d a j) (entry_of d b i) (of_divisor j hj) (of_bound i hi)

  -- and why there is none
  pub right_refused : (e : MatrixRefused) → ResidualRefused d l left right e → RightResidualRefused d l a b (turned_refusal e)
  right_refused (Count wanted given) h = h
  right_refused (Shape left_rows right_rows) h =
      let apart = h.2 in
      let tall = other.rows_are in
      absurd (apart (omega (arith, wide, tall, goes)))
  right_refused (Range step row column) h =
      let first = h.1 in
      let in_divisor : row < a.rows = let m = first.in_rows in omega (arith, m, high) in
      let in_bound : column < b.rows = let m = first.in_columns in omega (arith, m, across) in
      let stop = h.2 in (
        goes,
        record {
          in_rows = in_divisor;
          in_columns = in_bound;
          before = λ j i hi order. fits_there i j hi (before_in j row order in_divisor) (first.before j i (omega (arith, hi, across)) order);
          here = λ f. first.here (λ k hk. row_back column row in_bound in_divisor k (omega (arith, wide, hk)) (f k (omega (arith, wide, hk))));
        },
        record {
          within = (let m = stop.within in omega (arith, m, wide));
          before = λ k hk. (let m = stop.within in row_there column row in_bound in_divisor k (omega (arith, m, wide, hk)) (stop.before k hk));
          here = λ f. stop.here (let m = stop.within in row_back column row in_bound in_divisor step (omega (arith, m, wide)) f);
        },
      ) where
        before_in : (j row : ℕ) {column i : ℕ} → (j < row) ⊎ ((j ≡ row) × (i < column)) → row < a.rows → j < a.rows
        before_in j row order m = ⊎_elim (λ q. omega (arith, q, m)) (λ q. let e = q.0 in omega (arith, e, m)) order
  right_refused OutOfMemory h = h

  module _ (closed : IsClosed d.is_element d.zero d.one d.sum d.product) (laws : DioidLaws d.is_element d.zero d.one d.sum d.product) (commute : ProductsCommute d)
      (elements : AreElements d a.entries) where
    -- a product of a row of x with a row of a, in either order
    products_turned : (x : ℕ → ℕ → M) → ((i j : ℕ) → d.is_element (x i j)) → (i k : ℕ) → k < a.columns
        → dot d left.columns (entry_of d left k) (λ j. x i j) ≡ dot d a.rows (x i) (λ j. entry_of d a j k)
    products_turned x ex i k hk =
        ap (λ n. dot d n (entry_of d left k) (λ j. x i j)) high
        ∙ total_same d closed laws (λ j. d.product (entry_of d left k j) (x i j)) (λ j. d.product (x i j) (entry_of d a j k)) a.rows
        (λ j hj. ap (λ z. d.product z (x i j)) (of_divisor j hj k hk) ∙ commute (entry_of d a j k) (x i j) (elements (j * a.columns + k)) (ex i j))

    pub right_made : 1 ≤ a.columns → (residual r : Table M) → IsResidual d l left right residual → IsTranspose d residual r → IsRightResidual d l a b r
    right_made some residual r h back =
        let is : (i j : ℕ) → i < b.rows → j < a.rows → entry_of d r i j ≡ entry_of d residual j i =
        λ i j hi hj. back.entries i j (let c = h.columns in omega (arith, c, across, hi)) (let c = h.rows in omega (arith, c, high, hj)) in
        let value : (i j : ℕ) → i < b.rows → j < a.rows → entry_of d r i j ≡ right_residual_of d l a.columns (entry_of d a) (entry_of d b) i j =
        λ i j hi hj.
        is i j hi hj
        ∙ (h.entries j i (omega (arith, high, hj)) (omega (arith, across, hi))
        ∙ (ap (λ n. meet_below l (lefts d l (λ k. entry_of d left k j) (λ k. entry_of d right k i)) n) wide
        ∙ residue_same d l a.columns (λ k. entry_of d left k j) (λ k. entry_of d right k i) (entry_of d a j) (entry_of d b i) (of_divisor j hj) (of_bound i hi) some)) in
        record {
          goes = goes;
          rows = back.rows_are ∙ (h.columns ∙ across);
          columns = back.columns_are ∙ (h.rows ∙ high);
          entries = value;
          fit = λ i j hi hj. fits_there i j hi hj (h.fit j i (omega (arith, high, hj)) (omega (arith, across, hi)));
          greatest = λ x ex. (
            (λ p i j hi hj. subst (λ (z : M). IsAtMost d.sum (x i j) z) (sym (is i j hi hj))
                ((h.greatest (λ j i. x i j) (λ j i. ex i j)).0
                (λ k i hk hi. let hk' : k < a.columns = omega (arith, wide, hk) in let hi' : i < b.rows = omega (arith, across, hi) in
                subst (λ (z : M). IsAtMost d.sum z (entry_of d right k i)) (sym (products_turned x ex i k hk'))
                (subst (λ (z : M). IsAtMost d.sum (dot d a.rows (x i) (λ j. entry_of d a j k)) z) (sym (of_bound i hi' k hk')) (p i k hi' (omega (arith, goes, hk')))))
                j i (omega (arith, high, hj)) (omega (arith, across, hi)))),
            (λ p i k hi hk. let hk' : k < a.columns = omega (arith, goes, hk) in
                subst (λ (z : M). IsAtMost d.sum (dot d a.rows (x i) (λ j. entry_of d a j k)) z) (of_bound i hi k hk')
                (subst (λ (z : M). IsAtMost d.sum z (entry_of d right k i)) (products_turned x ex i k hk')
                ((h.greatest (λ j i. x i j) (λ j i. ex i j)).1
                (λ j i hj hi. let hj' : j < a.rows = omega (arith, high, hj) in let hi' : i < b.rows = omega (arith, across, hi) in
                subst (λ (z : M). IsAtMost d.sum (x i j) z) (is i j hi' hj') (p i j hi' hj'))
                k i (omega (arith, wide, hk')) (omega (arith, across, hi))))),
          );
        }
