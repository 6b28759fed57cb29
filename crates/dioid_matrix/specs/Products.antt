-- The product of two matrices.
use Rattle.std.specs.Prelude.{◌≡◌, ◌≢◌, ◌<◌, ℕ, Result, Ok, Err, ⊤}
use Rattle.dioid.specs.declared.algebra.Dioid.{Ghosts as DioidOf}
use Rattle.dioid_matrix.specs.Sums.{dot}
use Rattle.dioid_matrix.specs.Tables.{Table, entry_of, IsFirstMisfit, StopsAt}
use Rattle.dioid_matrix.specs.declared.refusals.MatrixRefused.{MatrixRefused}
use Rattle.dioid_matrix.specs.declared.refusals.MatrixRefused.TheVariants.{Count, Shape, Range, OutOfMemory}

module _ {M : Type 0} (d : DioidOf M) where
  -- the product at middle index k fits, and so does its sum with the sum of the products before it
  abbrev pub StepFits : (ℕ → M) → (ℕ → M) → ℕ → Type 0
  StepFits a b k = d.product_fits (a k) (b k) × (0 < k → d.sum_fits (dot d k a b) (d.product (a k) (b k)))

  -- each step of row i by column j fits
  abbrev pub CellFits : ℕ → (ℕ → ℕ → M) → (ℕ → ℕ → M) → ℕ → ℕ → Type 0
  CellFits count a b i j = (k : ℕ) → k < count → StepFits (a i) (λ k. b k j) k

  -- r is the product of a and b, and each step of each entry fits
  pub record IsProduct (a b r : Table M) : Type 0 where
    pub goes : a.columns ≡ b.rows
    pub rows : r.rows ≡ a.rows
    pub columns : r.columns ≡ b.columns
    pub entries : (i j : ℕ) → i < a.rows → j < b.columns → entry_of d r i j ≡ dot d a.columns (entry_of d a i) (λ k. entry_of d b k j)
    pub fit : (i j : ℕ) → i < a.rows → j < b.columns → CellFits a.columns (entry_of d a) (entry_of d b) i j

  -- why there is no product: Shape exactly where the left's columns are not as many as the right's rows, and Range at the
  -- first entry by rows that does not fit, with the first middle index that does not
  abbrev pub ProductRefused : Table M → Table M → MatrixRefused → Type 0
  ProductRefused a b (Count wanted given) = ⊥
  ProductRefused a b (Shape left_columns right_rows) = (left_columns ≡ a.columns) × (right_rows ≡ b.rows) × (a.columns ≢ b.rows)
  ProductRefused a b (Range step row column) =
      (a.columns ≡ b.rows)
      × IsFirstMisfit a.rows b.columns (CellFits a.columns (entry_of d a) (entry_of d b)) row column
      × StopsAt a.columns (StepFits (entry_of d a row) (λ k. entry_of d b k column)) step
  ProductRefused a b OutOfMemory = ⊤

  -- the product of two matrices, or why there is none
  abbrev pub AnswersProduct : Table M → Table M → Result (Table M) MatrixRefused → Type 0
  AnswersProduct a b (Ok r) = IsProduct a b r
  AnswersProduct a b (Err e) = ProductRefused a b e
