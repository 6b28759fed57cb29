-- Eigenvectors of a matrix of dates (chapter 3). The value is a number of units of time for a number of steps; each entry is multiplied by these
-- steps, so that all numbers are whole.
use Rattle.std.specs.Prelude.{ℕ, ℤ, pos, ◌<◌, ◌≤◌, ◌+◌, ◌*◌, ◌≡◌, ◌*ℤ◌, ◌+ℤ◌, ◌≤ℤ◌, List, [], ◌∷◌, length, get_or, slice_index_or, FitsSigned, ⊤}
use Rattle.std.specs.Int.{w128}
use Rattle.dioid.specs.declared.dates.Date.{Date}
use Rattle.dioid.specs.declared.dates.Date.TheVariants.{Early, At, Never}
use Rattle.dioid_matrix.specs.Tables.{Table}
use Rattle.dioid_spectra.specs.declared.eigenvectors.EigenValue.{EigenValue}

-- the entry in this row and column
abbrev pub entry_at : Table Date → ℕ → ℕ → Date
entry_at a i j = get_or a.entries (i * a.columns + j) Early

-- the entry, so many times, and the number y come to at most z
abbrev pub IsWithin : ℕ → Date → ℤ → ℤ → Type 0
IsWithin steps Early y z = ⊤
IsWithin steps (At x) y z = ((pos steps *ℤ x) +ℤ y) ≤ℤ z
IsWithin steps Never y z = ⊥

-- the entry, so many times, and the number y come to z
abbrev pub IsJust : ℕ → Date → ℤ → ℤ → Type 0
IsJust steps Early y z = ⊥
IsJust steps (At x) y z = ((pos steps *ℤ x) +ℤ y) ≡ z
IsJust steps Never y z = ⊥

-- the number at this place of the vector
abbrev pub number_at : List ℤ → ℕ → ℤ
number_at v i = slice_index_or v i (pos 0)

-- the first n entries of the row offer at most z
abbrev pub IsRowWithin : Table Date → ℕ → List ℤ → ℕ → ℤ → ℕ → Type 0
IsRowWithin a steps v i z n = (j : ℕ) → j < n → IsWithin steps (entry_at a i j) (number_at v j) z

-- some entry of the row offers just z
abbrev pub IsRowJust : Table Date → ℕ → List ℤ → ℕ → ℤ → Type 0
IsRowJust a steps v i z = (j : ℕ) × (j < a.columns) × IsJust steps (entry_at a i j) (number_at v j) z

-- in row i the greatest of what the columns offer is the value and the number there
pub record IsRowOf (a : Table Date) (value : EigenValue) (v : List ℤ) (i : ℕ) : Type 0 where
  pub within : IsRowWithin a value.steps v i (value.time +ℤ number_at v i) a.columns
  pub just : IsRowJust a value.steps v i (value.time +ℤ number_at v i)

-- the matrix, each entry so many times, makes of the vector the vector with the time added
pub record IsEigenOf (a : Table Date) (value : EigenValue) (v : List ℤ) : Type 0 where
  pub square : a.rows ≡ a.columns
  pub count : length v ≡ a.rows
  pub some : 1 ≤ value.steps
  pub each : (i : ℕ) → i < a.rows → IsRowOf a value v i

-- ---- numbers within 128 bits

-- the number x, so many times, and that with the number y stay within 128 bits
pub record OfferFits (steps : ℕ) (x y : ℤ) : Type 0 where
  pub product : FitsSigned w128 (pos steps *ℤ x)
  pub sum : FitsSigned w128 ((pos steps *ℤ x) +ℤ y)

-- so does the entry, where it is a number
abbrev pub EntryOfferFits : ℕ → Date → ℤ → Type 0
EntryOfferFits steps Early y = ⊤
EntryOfferFits steps (At x) y = OfferFits steps x y
EntryOfferFits steps Never y = ⊤

-- so does each entry of the row
abbrev pub OffersFit : Table Date → ℕ → List ℤ → ℕ → Type 0
OffersFit a steps v i = (j : ℕ) → j < a.columns → EntryOfferFits steps (entry_at a i j) (number_at v j)

-- so do all numbers of the row
pub record RowOffersFit (a : Table Date) (value : EigenValue) (v : List ℤ) (i : ℕ) : Type 0 where
  pub wanted : FitsSigned w128 (value.time +ℤ number_at v i)
  pub offers : OffersFit a value.steps v i

-- no number on the way passes 128 bits
abbrev pub NumbersFit : Table Date → EigenValue → List ℤ → Type 0
NumbersFit a value v = (i : ℕ) → i < a.rows → RowOffersFit a value v i

-- ---- rows that reach each other

-- a whole number
abbrev pub IsNumber : Date → Type 0
IsNumber Early = ⊥
IsNumber (At x) = ⊤
IsNumber Never = ⊥

-- from row j these rows lead to row i: each has a number in the column of the one before it
abbrev pub IsWay : Table Date → ℕ → List ℕ → ℕ → Type 0
IsWay a j [] i = j ≡ i
IsWay a j (k ∷ ks) i = (k < a.rows) × IsNumber (entry_at a k j) × IsWay a k ks i

-- each row reaches each row
abbrev pub IsIrreducible : Table Date → Type 0
IsIrreducible a = (j i : ℕ) → j < a.rows → i < a.rows → (ks : List ℕ) × IsWay a j ks i

-- ---- circuits

-- the number of an entry, 0 where it is none
abbrev pub number_of : Date → ℤ
number_of Early = pos 0
number_of (At x) = x
number_of Never = pos 0

-- the sum of the entries along a way from row j by these rows
abbrev pub way_sum : Table Date → ℕ → List ℕ → ℤ
way_sum a j [] = pos 0
way_sum a j (k ∷ ks) = number_of (entry_at a k j) +ℤ way_sum a k ks

-- the rows lead around from a row to itself, and the mean of the entries on the way is the value
pub record IsCriticalCircuit (a : Table Date) (value : EigenValue) (ks : List ℕ) : Type 0 where
  pub from : ℕ
  pub from_in : from < a.rows
  pub some : 1 ≤ length ks
  pub closed : IsWay a from ks from
  pub mean : (pos value.steps *ℤ way_sum a from ks) ≡ (pos (length ks) *ℤ value.time)
