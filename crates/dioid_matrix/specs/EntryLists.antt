-- Working definitions of what the functions below the calls of a matrix answer: lists of entries by rows.
use Rattle.std.specs.Prelude.{◌≡◌, ◌<◌, ◌≤◌, ◌+◌, ◌*◌, ℕ, cond, eqb, List, Vec, length, get_or, Result, Ok, Err, ⊤}
use Rattle.dioid.specs.declared.algebra.Dioid.{Ghosts as DioidOf}
use Rattle.dioid.specs.declared.algebra.Kleene.{Ghosts as KleeneOf}
use Rattle.dioid.specs.declared.algebra.Refused.{Refused}
use Rattle.dioid_matrix.specs.MatrixStars.{through}
use Rattle.dioid_matrix.specs.Tables.{Table, table_of, entry_of, AreElements, IsFirstMisfit, StopsAt}
use Rattle.dioid_matrix.specs.Turns.{loop_of, LoopFits, EntryFits, LastFits}
use Rattle.dioid_matrix.specs.declared.refusals.MatrixRefused.{MatrixRefused}
use Rattle.dioid_matrix.specs.declared.refusals.MatrixRefused.TheVariants.{Count, Shape, Range, OutOfMemory}
use Rattle.dioid_matrix.specs.declared.refusals.Cell.{Cell}
use Rattle.dioid_matrix.specs.declared.refusals.Cell.TheVariants.{Value, Misfit, NoMemoryLeft}

-- what became of an entry that one operation makes, at this step
abbrev pub cell_of : {M : Type 0} → Result M Refused → ℕ → Cell M
cell_of (Ok v) step = Value v
cell_of (Err Refused.Range) step = Misfit step
cell_of (Err Refused.OutOfMemory) step = NoMemoryLeft

-- the entry in this row and column, or why there is none
abbrev pub cell_at : {M : Type 0} → Cell M → ℕ → ℕ → Result M MatrixRefused
cell_at (Value v) row column = Ok v
cell_at (Misfit step) row column = Err (Range step row column)
cell_at NoMemoryLeft row column = Err OutOfMemory

module _ {M : Type 0} (d : DioidOf M) where
  -- one element, reached by this many steps, or the first step that does not fit
  abbrev pub AnswersCell : ℕ → (ℕ → Type 0) → M → Cell M → Type 0
  AnswersCell count fits value (Value r) = (r ≡ value) × d.is_element r × ((k : ℕ) → k < count → fits k)
  AnswersCell count fits value (Misfit step) = StopsAt count fits step
  AnswersCell count fits value NoMemoryLeft = ⊤

  -- a list of elements, one for each row and column, of which the table says what it should, or a refusal
  abbrev pub AnswersList : {Z : Type 0} → ℕ → ℕ → (Table M → Type 0) → (MatrixRefused → Type 0) → Result (Vec M Z) MatrixRefused → Type 0
  AnswersList rows columns is refused (Ok v) = (length v.items ≡ rows * columns) × AreElements d v.items × is (table_of rows columns v.items)
  AnswersList rows columns is refused (Err e) = refused e

module _ {M : Type 0} (d : DioidOf M) (s : KleeneOf M) where
  -- the loops of row k of the table r by columns, up to the first that does not fit
  pub record AreLoops (size : ℕ) (r : ℕ → ℕ → M) (k : ℕ) (loops : List M) : Type 0 where
    pub few : length loops ≤ size
    pub values : (j : ℕ) → j < length loops → get_or loops j d.zero ≡ loop_of d s (r k k) (r k j)
    pub fit : (j : ℕ) → j < length loops → LoopFits d s (r k k) (r k j)
    pub last : length loops < size → ¬ LoopFits d s (r k k) (r k (length loops))

  -- the entries of t are those of r after step k + 1, which fits
  pub record IsAfterPass (size : ℕ) (r : ℕ → ℕ → M) (k : ℕ) (t : Table M) : Type 0 where
    pub entries : (i j : ℕ) → i < size → j < size → entry_of d t i j ≡ through d s r k i j
    pub fit : (i j : ℕ) → i < size → j < size → EntryFits d s r k i j

  -- why there is no step k + 1
  abbrev pub PassRefused : ℕ → (ℕ → ℕ → M) → ℕ → MatrixRefused → Type 0
  PassRefused size r k (Count wanted given) = ⊥
  PassRefused size r k (Shape left_columns right_rows) = ⊥
  PassRefused size r k (Range step row column) = (step ≡ k + 1) × IsFirstMisfit size size (EntryFits d s r k) row column
  PassRefused size r k OutOfMemory = ⊤

module _ {M : Type 0} (d : DioidOf M) where
  -- an entry after the last step
  abbrev pub last_entry_of : (ℕ → ℕ → M) → ℕ → ℕ → M
  last_entry_of r i j = cond (eqb i j) (d.sum (r i j) d.one) (r i j)

  -- the entries of t are those of r after the last step, which fits
  pub record IsAfterLastPass (size : ℕ) (r : ℕ → ℕ → M) (t : Table M) : Type 0 where
    pub entries : (i j : ℕ) → i < size → j < size → entry_of d t i j ≡ last_entry_of r i j
    pub fit : (i j : ℕ) → i < size → j < size → LastFits d r i j

  -- why there is no last step
  abbrev pub LastRefused : ℕ → (ℕ → ℕ → M) → MatrixRefused → Type 0
  LastRefused size r (Count wanted given) = ⊥
  LastRefused size r (Shape left_columns right_rows) = ⊥
  LastRefused size r (Range step row column) = (step ≡ size + 1) × IsFirstMisfit size size (LastFits d r) row column
  LastRefused size r OutOfMemory = ⊤
