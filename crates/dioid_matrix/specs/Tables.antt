-- What a contract sees of a matrix: its sizes, and its entries by rows.
use Rattle.std.specs.Prelude.{◌≡◌, ◌≢◌, ◌<◌, ◌≤◌, ◌+◌, ◌*◌, ◌⊎◌, ℕ, List, length, get_or, Result, Ok, Err}
use Rattle.dioid.specs.declared.algebra.Dioid.{Ghosts as DioidOf}
use Rattle.dioid_matrix.specs.declared.refusals.MatrixRefused.{MatrixRefused}
use Rattle.dioid_matrix.specs.declared.refusals.MatrixRefused.TheVariants.{Count, Shape, Range, OutOfMemory}

-- the sizes of a matrix, and its entries row after row
pub record Table (M : Type 0) : Type 0 where
  pub rows : ℕ
  pub columns : ℕ
  pub entries : List M

-- the table of these sizes and entries
abbrev pub table_of : {M : Type 0} → ℕ → ℕ → List M → Table M
table_of rows columns entries = record { rows = rows; columns = columns; entries = entries }

-- row and column are those of the first entry, by rows, that does not fit
pub record IsFirstMisfit (rows columns : ℕ) (fits : ℕ → ℕ → Type 0) (row column : ℕ) : Type 0 where
  pub in_rows : row < rows
  pub in_columns : column < columns
  pub before : (i j : ℕ) → j < columns → (i < row) ⊎ ((i ≡ row) × (j < column)) → fits i j
  pub here : ¬ fits row column

-- the places before this one fit, and this one does not
pub record StopsAt (count : ℕ) (fits : ℕ → Type 0) (place : ℕ) : Type 0 where
  pub within : place < count
  pub before : (k : ℕ) → k < place → fits k
  pub here : ¬ fits place

-- a new matrix has the sizes and the list that it was given; Count comes exactly where the list has another length
abbrev pub AnswersNew : {M : Type 0} → ℕ → ℕ → List M → Result (Table M) MatrixRefused → Type 0
AnswersNew rows columns entries (Ok r) = (r ≡ table_of rows columns entries) × (length entries ≡ rows * columns)
AnswersNew rows columns entries (Err (Count wanted given)) = (wanted ≡ rows * columns) × (given ≡ length entries) × (given ≢ wanted)
AnswersNew rows columns entries (Err (Shape left_columns right_rows)) = ⊥
AnswersNew rows columns entries (Err (Range step row column)) = ⊥
AnswersNew rows columns entries (Err OutOfMemory) = ⊥

module _ {M : Type 0} (d : DioidOf M) where
  -- the entry in this row and column
  abbrev pub entry_of : Table M → ℕ → ℕ → M
  entry_of t row column = get_or t.entries (row * t.columns + column) d.zero

  -- each value of the list is an element; past its end zero is read, which is one too
  abbrev pub AreElements : List M → Type 0
  AreElements values = (k : ℕ) → d.is_element (get_or values k d.zero)

  -- what holds of each matrix: its sizes are from 1 to 4,096, and it has an element for each row and column
  pub record IsTable (t : Table M) : Type 0 where
    pub some_rows : 1 ≤ t.rows
    pub few_rows : t.rows ≤ 4096
    pub some_columns : 1 ≤ t.columns
    pub few_columns : t.columns ≤ 4096
    pub filled : length t.entries ≡ t.rows * t.columns
    pub elements : AreElements t.entries
