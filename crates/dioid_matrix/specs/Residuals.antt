-- The left residual of two matrices (section 4.4).
use Rattle.std.specs.Prelude.{◌≡◌, ◌≢◌, ◌↔◌, ◌<◌, ℕ, zero, suc, Result, Ok, Err, ⊤}
use Rattle.dioid.specs.DioidAxioms.{IsAtMost}
use Rattle.dioid.specs.declared.algebra.Dioid.{Ghosts as DioidOf}
use Rattle.dioid.specs.declared.algebra.Residuated.{Ghosts as ResiduatedOf}
use Rattle.dioid_matrix.specs.Sums.{dot}
use Rattle.dioid_matrix.specs.Tables.{Table, entry_of, IsFirstMisfit, StopsAt}
use Rattle.dioid_matrix.specs.declared.refusals.MatrixRefused.{MatrixRefused}
use Rattle.dioid_matrix.specs.declared.refusals.MatrixRefused.TheVariants.{Count, Shape, Range, OutOfMemory}

-- the meet of the first n values of f, from left to right, of which there is at least one
abbrev pub meet_below : {M : Type 0} → ResiduatedOf M → (ℕ → M) → ℕ → M
meet_below l f zero = f 0
meet_below l f (suc zero) = f 0
meet_below l f (suc (suc n)) = l.meet (meet_below l f (suc n)) (f (suc n))

-- the residual of b by a fits, and so does its meet with the element before it
abbrev pub LeftMeetFits : {M : Type 0} → ResiduatedOf M → M → M → M → Type 0
LeftMeetFits l before a b = l.left_fits a b × l.meet_fits before (l.left a b)

module _ {M : Type 0} (d : DioidOf M) where
  -- a x is at most b exactly where x is at most r
  abbrev pub IsGreatest : ℕ → ℕ → ℕ → (ℕ → ℕ → M) → (ℕ → ℕ → M) → (ℕ → ℕ → M) → Type 0
  IsGreatest rows middle columns a b r =
      (x : ℕ → ℕ → M) → ((j k : ℕ) → d.is_element (x j k))
      → ((i k : ℕ) → i < rows → k < columns → IsAtMost d.sum (dot d middle (a i) (λ j. x j k)) (b i k))
      ↔ ((j k : ℕ) → j < middle → k < columns → IsAtMost d.sum (x j k) (r j k))

module _ {M : Type 0} (d : DioidOf M) (l : ResiduatedOf M) where
  -- the residuals of two columns, row by row
  abbrev pub lefts : (ℕ → M) → (ℕ → M) → ℕ → M
  lefts a b i = l.left (a i) (b i)

  -- the entry in row j and column k of the residual: the meet over the rows
  abbrev pub residual_of : ℕ → (ℕ → ℕ → M) → (ℕ → ℕ → M) → ℕ → ℕ → M
  residual_of rows a b j k = meet_below l (lefts (λ i. a i j) (λ i. b i k)) rows

  -- a row's residual fits, and so does its meet with the meet of those before it
  abbrev pub RowFits : (ℕ → M) → (ℕ → M) → ℕ → Type 0
  RowFits a b i = l.left_fits (a i) (b i) × (0 < i → l.meet_fits (meet_below l (lefts a b) i) (l.left (a i) (b i)))

  -- each row of the entry in row j and column k of the residual fits
  abbrev pub ResidueFits : ℕ → (ℕ → ℕ → M) → (ℕ → ℕ → M) → ℕ → ℕ → Type 0
  ResidueFits rows a b j k = (i : ℕ) → i < rows → RowFits (λ i. a i j) (λ i. b i k) i

  -- r is the residual of b by a: the meets over the rows, each of which fits, and the greatest x with a x at most b
  pub record IsResidual (a b r : Table M) : Type 0 where
    pub goes : a.rows ≡ b.rows
    pub rows : r.rows ≡ a.columns
    pub columns : r.columns ≡ b.columns
    pub entries : (j k : ℕ) → j < a.columns → k < b.columns → entry_of d r j k ≡ residual_of a.rows (entry_of d a) (entry_of d b) j k
    pub fit : (j k : ℕ) → j < a.columns → k < b.columns → ResidueFits a.rows (entry_of d a) (entry_of d b) j k
    pub greatest : IsGreatest d a.rows a.columns b.columns (entry_of d a) (entry_of d b) (entry_of d r)

  -- why there is no residual: Shape exactly where the rows are not as many, with the left's and then the right's, and Range
  -- at the first entry by rows that does not fit, with the first row of the operands that does not
  abbrev pub ResidualRefused : Table M → Table M → MatrixRefused → Type 0
  ResidualRefused a b (Count wanted given) = ⊥
  ResidualRefused a b (Shape left_rows right_rows) = (left_rows ≡ a.rows) × (right_rows ≡ b.rows) × (a.rows ≢ b.rows)
  ResidualRefused a b (Range step row column) =
      (a.rows ≡ b.rows)
      × IsFirstMisfit a.columns b.columns (ResidueFits a.rows (entry_of d a) (entry_of d b)) row column
      × StopsAt a.rows (RowFits (λ i. entry_of d a i row) (λ i. entry_of d b i column)) step
  ResidualRefused a b OutOfMemory = ⊤

  -- the residual, or why there is none
  abbrev pub AnswersResidual : Table M → Table M → Result (Table M) MatrixRefused → Type 0
  AnswersResidual a b (Ok r) = IsResidual a b r
  AnswersResidual a b (Err e) = ResidualRefused a b e
