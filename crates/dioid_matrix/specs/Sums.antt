-- Sums of values of the model, and the sum of two matrices.
use Rattle.std.specs.Prelude.{◌≡◌, ◌<◌, ℕ, zero, suc, Result, Ok, Err, ⊤}
use Rattle.dioid.specs.declared.algebra.Dioid.{Ghosts as DioidOf}
use Rattle.dioid_matrix.specs.Tables.{Table, entry_of, IsFirstMisfit}
use Rattle.dioid_matrix.specs.declared.refusals.MatrixRefused.{MatrixRefused}
use Rattle.dioid_matrix.specs.declared.refusals.MatrixRefused.TheVariants.{Count, Shape, Range, OutOfMemory}

-- the sum of the first n values of f, from left to right
abbrev pub total_of_first : {M : Type 0} → DioidOf M → (ℕ → M) → ℕ → M
total_of_first d f zero = d.zero
total_of_first d f (suc n) = d.sum (total_of_first d f n) (f n)

-- the product of a row and a column of n values: the sum of a j times b j
abbrev pub dot : {M : Type 0} → DioidOf M → ℕ → (ℕ → M) → (ℕ → M) → M
dot d n a b = total_of_first d (λ j. d.product (a j) (b j)) n

module _ {M : Type 0} (d : DioidOf M) where
  -- the sum of the entries in row i and column j fits
  abbrev pub EntrySumFits : Table M → Table M → ℕ → ℕ → Type 0
  EntrySumFits a b i j = d.sum_fits (entry_of d a i j) (entry_of d b i j)

  -- r is the sum of a and b, entry by entry, and each sum fits
  pub record IsSum (a b r : Table M) : Type 0 where
    pub rows : r.rows ≡ a.rows
    pub columns : r.columns ≡ a.columns
    pub entries : (i j : ℕ) → i < a.rows → j < a.columns → entry_of d r i j ≡ d.sum (entry_of d a i j) (entry_of d b i j)
    pub fit : (i j : ℕ) → i < a.rows → j < a.columns → EntrySumFits a b i j

  -- why there is no sum: Range, with step 0, at the first entry by rows whose sum does not fit
  abbrev pub SumRefused : Table M → Table M → MatrixRefused → Type 0
  SumRefused a b (Count wanted given) = ⊥
  SumRefused a b (Shape left_columns right_rows) = ⊥
  SumRefused a b (Range step row column) = (step ≡ 0) × IsFirstMisfit a.rows a.columns (EntrySumFits a b) row column
  SumRefused a b OutOfMemory = ⊤

  -- the sum of two matrices, or why there is none
  abbrev pub AnswersSum : Table M → Table M → Result (Table M) MatrixRefused → Type 0
  AnswersSum a b (Ok r) = IsSum a b r
  AnswersSum a b (Err e) = SumRefused a b e
