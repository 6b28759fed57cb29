-- The meet of two matrices of equal sizes, the greatest matrix that is at most both, and why there is none (chapter 4).
use Rattle.std.specs.Prelude.{◌≡◌, ◌↔◌, ◌<◌, ℕ, Result, Ok, Err, ⊤}
use Rattle.dioid.specs.DioidAxioms.{IsAtMost}
use Rattle.dioid.specs.declared.algebra.Dioid.{Ghosts as DioidOf}
use Rattle.dioid.specs.declared.algebra.Residuated.{Ghosts as ResiduatedOf}
use Rattle.dioid_matrix.specs.Tables.{Table, entry_of, IsFirstMisfit}
use Rattle.dioid_matrix.specs.declared.refusals.MatrixRefused.{MatrixRefused}
use Rattle.dioid_matrix.specs.declared.refusals.MatrixRefused.TheVariants.{Count, Shape, Range, OutOfMemory}

module _ {M : Type 0} (d : DioidOf M) where
  -- in so many rows and columns, each value of x is at most the entry of the table there
  abbrev pub IsTableBelow : ℕ → ℕ → (ℕ → ℕ → M) → Table M → Type 0
  IsTableBelow rows columns x t = (i j : ℕ) → i < rows → j < columns → IsAtMost d.sum (x i j) (entry_of d t i j)

module _ {M : Type 0} (d : DioidOf M) (l : ResiduatedOf M) (a b : Table M) where
  -- the meet of the entries in row i and column j fits
  abbrev pub EntryMeetFits : ℕ → ℕ → Type 0
  EntryMeetFits i j = l.meet_fits (entry_of d a i j) (entry_of d b i j)

  -- what is at most both tables is just what is at most r
  abbrev pub IsGreatestUnderBoth : Table M → Type 0
  IsGreatestUnderBoth r =
      (x : ℕ → ℕ → M) → ((i j : ℕ) → d.is_element (x i j))
      → (IsTableBelow d a.rows a.columns x a × IsTableBelow d a.rows a.columns x b) ↔ IsTableBelow d a.rows a.columns x r

  -- r is the meet of a and b, entry by entry, each meet fits, and it is the greatest that is at most both
  pub record IsMeetOfTables (r : Table M) : Type 0 where
    pub rows : r.rows ≡ a.rows
    pub columns : r.columns ≡ a.columns
    pub entries : (i j : ℕ) → i < a.rows → j < a.columns → entry_of d r i j ≡ l.meet (entry_of d a i j) (entry_of d b i j)
    pub fit : (i j : ℕ) → i < a.rows → j < a.columns → EntryMeetFits i j
    pub greatest : IsGreatestUnderBoth r

  -- why the entry in this row and column has no meet: Range, with step 0, exactly where it does not fit
  abbrev pub IsWhyNoEntryMeet : ℕ → ℕ → MatrixRefused → Type 0
  IsWhyNoEntryMeet i j (Count wanted given) = ⊥
  IsWhyNoEntryMeet i j (Shape left_columns right_rows) = ⊥
  IsWhyNoEntryMeet i j (Range step row column) = (step ≡ 0) × (row ≡ i) × (column ≡ j) × ¬ EntryMeetFits i j
  IsWhyNoEntryMeet i j OutOfMemory = ⊤

  -- why there is no meet: Range, with step 0, at the first entry by rows whose meet does not fit
  abbrev pub IsWhyNoMeet : MatrixRefused → Type 0
  IsWhyNoMeet (Count wanted given) = ⊥
  IsWhyNoMeet (Shape left_columns right_rows) = ⊥
  IsWhyNoMeet (Range step row column) = (step ≡ 0) × IsFirstMisfit a.rows a.columns EntryMeetFits row column
  IsWhyNoMeet OutOfMemory = ⊤

  -- the meet of two matrices, or why there is none
  abbrev pub AnswersMeet : Result (Table M) MatrixRefused → Type 0
  AnswersMeet (Ok r) = IsMeetOfTables r
  AnswersMeet (Err e) = IsWhyNoMeet e
