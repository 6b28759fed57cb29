-- Which rows of a square matrix of dates reach which others (chapter 3).
use Rattle.std.specs.Prelude.{◌≡◌, ◌<◌, ℕ, List, Bool, false, true, Option, Some, None, length, slice_index_or}
use Rattle.dioid.specs.declared.dates.Date.{Date}
use Rattle.dioid_matrix.specs.Tables.{Table}
use Rattle.dioid_spectra.specs.Eigenvectors.{IsIrreducible, IsNumber, IsWay, entry_at}
use Rattle.matrix_values.specs.declared.reach.RowsApart.{RowsApart}

-- no way leads from the first row to the second
pub record IsUnreached (a : Table Date) (u : RowsApart) : Type 0 where
  pub from_in : u.from < a.rows
  pub to_in : u.to < a.rows
  pub none : (ks : List ℕ) → IsWay a u.from ks u.to → ⊥

-- none exactly where each row reaches each row, else two rows of which the first does not reach the second
abbrev pub AnswersUnreached : Table Date → Option RowsApart → Type 0
AnswersUnreached a None = IsIrreducible a
AnswersUnreached a (Some u) = IsUnreached a u

-- a row that row 0 does not reach; none where it reaches each
abbrev pub AnswersFromFirst : Table Date → Option ℕ → Type 0
AnswersFromFirst a None = (i : ℕ) → i < a.rows → (ks : List ℕ) × IsWay a 0 ks i
AnswersFromFirst a (Some i) = (i < a.rows) × ((ks : List ℕ) → IsWay a 0 ks i → ⊥)

-- ---- marks

-- the row is marked
abbrev pub IsMarkedRow : List Bool → ℕ → Type 0
IsMarkedRow marks i = slice_index_or marks i false ≡ true

-- the row has a number in a column whose row is marked
abbrev pub HasMarkedColumn : Table Date → List Bool → ℕ → Type 0
HasMarkedColumn a marks i = (j : ℕ) × (j < a.columns) × IsMarkedRow marks j × IsNumber (entry_at a i j)

-- the row has such a number, and is not marked itself
pub record IsOpenRow (a : Table Date) (marks : List Bool) (i : ℕ) : Type 0 where
  pub in_rows : i < a.rows
  pub off : slice_index_or marks i false ≡ false
  pub led : HasMarkedColumn a marks i

-- marked are rows that row 0 reaches, and row 0
pub record AreReachedRows (a : Table Date) (marks : List Bool) : Type 0 where
  pub count : length marks ≡ a.rows
  pub start : IsMarkedRow marks 0
  pub reached : (i : ℕ) → IsMarkedRow marks i → (ks : List ℕ) × IsWay a 0 ks i

-- no row is open
abbrev pub AreRowsClosed : Table Date → List Bool → Type 0
AreRowsClosed a marks = (i : ℕ) → i < a.rows → slice_index_or marks i false ≡ false → HasMarkedColumn a marks i → ⊥

-- a row that is not marked; none where each is
abbrev pub IsFirstOff : List Bool → Option ℕ → Type 0
IsFirstOff marks None = (i : ℕ) → i < length marks → IsMarkedRow marks i
IsFirstOff marks (Some i) = (i < length marks) × (slice_index_or marks i false ≡ false)
