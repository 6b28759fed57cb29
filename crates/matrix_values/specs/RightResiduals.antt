-- The right residual b / a of two matrices, the greatest x with x a at most b, and why there is none (chapter 4).
use Rattle.std.specs.Prelude.{◌≡◌, ◌≢◌, ◌↔◌, ◌<◌, ℕ, Result, Ok, Err, ⊤}
use Rattle.dioid.specs.DioidAxioms.{IsAtMost}
use Rattle.dioid.specs.declared.algebra.Dioid.{Ghosts as DioidOf}
use Rattle.dioid.specs.declared.algebra.Residuated.{Ghosts as ResiduatedOf}
use Rattle.dioid_matrix.specs.Residuals.{RowFits, lefts, meet_below}
use Rattle.dioid_matrix.specs.Sums.{dot}
use Rattle.dioid_matrix.specs.Tables.{Table, entry_of, IsFirstMisfit, StopsAt}
use Rattle.dioid_matrix.specs.declared.refusals.MatrixRefused.{MatrixRefused}
use Rattle.dioid_matrix.specs.declared.refusals.MatrixRefused.TheVariants.{Count, Shape, Range, OutOfMemory}

-- the same refusal, with row and column of a misfit changed about
abbrev pub turned_refusal : MatrixRefused → MatrixRefused
turned_refusal (Count wanted given) = Count wanted given
turned_refusal (Shape left_columns right_rows) = Shape left_columns right_rows
turned_refusal (Range step row column) = Range step column row
turned_refusal OutOfMemory = OutOfMemory

module _ {M : Type 0} (d : DioidOf M) where
  -- x a is at most b exactly where x is at most r
  abbrev pub IsGreatestFactor : ℕ → ℕ → ℕ → (ℕ → ℕ → M) → (ℕ → ℕ → M) → (ℕ → ℕ → M) → Type 0
  IsGreatestFactor rows middle columns a b r =
      (x : ℕ → ℕ → M) → ((i j : ℕ) → d.is_element (x i j))
      → ((i k : ℕ) → i < rows → k < columns → IsAtMost d.sum (dot d middle (x i) (λ j. a j k)) (b i k))
      ↔ ((i j : ℕ) → i < rows → j < middle → IsAtMost d.sum (x i j) (r i j))

module _ {M : Type 0} (d : DioidOf M) (l : ResiduatedOf M) where
  -- the entry in row i and column j of the right residual: the meet over the columns of row i of b and row j of a
  abbrev pub right_residual_of : ℕ → (ℕ → ℕ → M) → (ℕ → ℕ → M) → ℕ → ℕ → M
  right_residual_of columns a b i j = meet_below l (lefts d l (a j) (b i)) columns

  -- each column of the entry in row i and column j of the right residual fits
  abbrev pub RightResidueFits : ℕ → (ℕ → ℕ → M) → (ℕ → ℕ → M) → ℕ → ℕ → Type 0
  RightResidueFits columns a b i j = (k : ℕ) → k < columns → RowFits d l (a j) (b i) k

  module _ (a b : Table M) where
    -- r is b / a: the meets over the columns, each of which fits, and the greatest x with x a at most b
    pub record IsRightResidual (r : Table M) : Type 0 where
      pub goes : a.columns ≡ b.columns
      pub rows : r.rows ≡ b.rows
      pub columns : r.columns ≡ a.rows
      pub entries : (i j : ℕ) → i < b.rows → j < a.rows → entry_of d r i j ≡ right_residual_of a.columns (entry_of d a) (entry_of d b) i j
      pub fit : (i j : ℕ) → i < b.rows → j < a.rows → RightResidueFits a.columns (entry_of d a) (entry_of d b) i j
      pub greatest : IsGreatestFactor d b.rows a.rows b.columns (entry_of d a) (entry_of d b) (entry_of d r)

    -- why there is no right residual: Shape exactly where the columns are not as many, with the divisor's and then the other's, and Range at the
    -- first entry by columns that does not fit, with the first column of the operands that does not
    abbrev pub RightResidualRefused : MatrixRefused → Type 0
    RightResidualRefused (Count wanted given) = ⊥
    RightResidualRefused (Shape divisor_columns columns) = (divisor_columns ≡ a.columns) × (columns ≡ b.columns) × (a.columns ≢ b.columns)
    RightResidualRefused (Range step row column) =
        (a.columns ≡ b.columns)
        × IsFirstMisfit a.rows b.rows (λ j i. RightResidueFits a.columns (entry_of d a) (entry_of d b) i j) column row
        × StopsAt a.columns (RowFits d l (entry_of d a column) (entry_of d b row)) step
    RightResidualRefused OutOfMemory = ⊤

    -- the right residual, or why there is none
    abbrev pub AnswersRightResidual : Result (Table M) MatrixRefused → Type 0
    AnswersRightResidual (Ok r) = IsRightResidual r
    AnswersRightResidual (Err e) = RightResidualRefused e
