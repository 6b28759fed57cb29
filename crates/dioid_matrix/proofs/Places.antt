-- From places in a list to rows and columns.
use Rattle.std.proofs.Common.{◌≡◌, ℕ, ◌<◌, ◌≤◌, ◌*◌, ◌+◌, ◌/◌, ◌%◌, ◌⊎◌, ap, arith, subst, sym, ⊎_elim, List, get_or, mul_comm, Bool, Result, Ok, Err}
use Rattle.std.proofs.Math.Nat.{mul-le-mul_right}
use Rattle.std.proofs.lemmas.Nat.{div-mul-add, mod-mul-add, mul-add-lt, div-add-mod'}
use Rattle.dioid.specs.declared.algebra.Dioid.{Ghosts as DioidOf}
use Rattle.dioid.specs.declared.algebra.Refused.{Refused}
use Rattle.dioid.specs.ElementAnswers.{Answers}
use Rattle.dioid_matrix.specs.EntryLists.{AnswersCell, cell_of, cell_at}
use Rattle.dioid_matrix.specs.Tables.{table_of, entry_of, IsFirstMisfit, StopsAt}
use Rattle.dioid_matrix.specs.declared.refusals.Cell.{Cell}
use Rattle.dioid_matrix.specs.declared.refusals.Cell.TheVariants.{Value, Misfit, NoMemoryLeft}
use Rattle.dioid_matrix.specs.declared.refusals.MatrixRefused.{MatrixRefused}
use Rattle.dioid_matrix.proofs.Cells.{row_below}
use Rattle.dioid_matrix.proofs.Filled.{HoldsEach}

-- what holds at a place holds in its row and column
pub at_place : (P : ℕ → ℕ → Type 0) (i j columns : ℕ) → j < columns → P ((i * columns + j) / columns) ((i * columns + j) % columns) → P i j
at_place P i j columns hj h = subst (λ (m : ℕ). P m j) (div-mul-add i columns j hj) (subst (λ (m : ℕ). P ((i * columns + j) / columns) m) (mod-mul-add i columns j hj) h)

pub earlier : (i j columns place : ℕ) → j < columns → (i < place / columns) ⊎ ((i ≡ place / columns) × (j < place % columns)) → i * columns + j < place
earlier i j columns place hj order = ⊎_elim
    (λ l. let more : (i + 1) * columns ≤ place / columns * columns = mul-le-mul_right {m = i + 1} {n = place / columns} columns (omega (arith, l)) in
    omega (arith, more, div-add-mod' place columns))
    (λ p. let same : i * columns ≡ place / columns * columns = ap (λ m. m * columns) p.0 in omega (arith, same, p.1, div-add-mod' place columns))
    order

-- the first place that does not fit is the first entry by rows
pub first_misfit : (rows columns place : ℕ) (fits : ℕ → ℕ → Type 0) → 1 ≤ columns
    → StopsAt (rows * columns) (λ p. fits (p / columns) (p % columns)) place → IsFirstMisfit rows columns fits (place / columns) (place % columns)
first_misfit rows columns place fits hc h = record {
  in_rows = let b : place / columns + 1 ≤ rows = row_below place rows columns hc h.within in omega (arith, b);
  in_columns = omega arith;
  before = λ i j hj order. at_place fits i j columns hj (h.before (i * columns + j) (earlier i j columns place hj order));
  here = h.here;
}

-- a list by rows as a table
module _ {M : Type 0} (d : DioidOf M) (rows columns : ℕ) (fits : ℕ → ℕ → Type 0) (value : ℕ → ℕ → M) (xs : List M)
    (h : HoldsEach d (rows * columns) (λ place. fits (place / columns) (place % columns)) (λ place. value (place / columns) (place % columns)) xs) where
  within : (i j : ℕ) → i < rows → j < columns → i * columns + j < rows * columns
  within i j hi hj = rw (mul_comm rows columns) (mul-add-lt i columns j rows hi hj)

  pub entries_held : (i j : ℕ) → i < rows → j < columns → entry_of d (table_of rows columns xs) i j ≡ value i j
  entries_held i j hi hj = at_place (λ m n. get_or xs (i * columns + j) d.zero ≡ value m n) i j columns hj (h.values (i * columns + j) (within i j hi hj))

  pub fits_held : (i j : ℕ) → i < rows → j < columns → fits i j
  fits_held i j hi hj = at_place fits i j columns hj (h.fit (i * columns + j) (within i j hi hj))

-- what a cell gives at its row and column
module _ {M : Type 0} (d : DioidOf M) (count : ℕ) (fits : ℕ → Type 0) (value : M) where
  pub cell_value : (c : Cell M) (i j : ℕ) (v : M) → Ok v ≡ cell_at c i j → AnswersCell d count fits value c → AnswersCell d count fits value (Value v)
  cell_value (Value w) i j v e h = let same : v ≡ w = cc in subst (λ (z : M). AnswersCell d count fits value (Value z)) (sym same) h
  cell_value (Misfit step) i j v e h = absurd cc
  cell_value NoMemoryLeft i j v e h = absurd cc

  pub cell_refused : (P : MatrixRefused → Type 0) (c : Cell M) (i j : ℕ) (e : MatrixRefused) → Err e ≡ cell_at c i j → AnswersCell d count fits value c
      → ((step : ℕ) → StopsAt count fits step → P (MatrixRefused.Range step i j)) → P MatrixRefused.OutOfMemory → P e
  cell_refused P (Value w) i j e is h misfit none = absurd cc
  cell_refused P (Misfit step) i j e is h misfit none = let same : e ≡ MatrixRefused.Range step i j = cc in subst P (sym same) (misfit step h)
  cell_refused P NoMemoryLeft i j e is h misfit none = let same : e ≡ MatrixRefused.OutOfMemory = cc in subst P (sym same) none

-- the same of an entry that one operation makes
module _ {M : Type 0} (takes : Bool) (fits : Type 0) (value : M) where
  pub made_value : (r : Result M Refused) (step i j : ℕ) (v : M) → Ok v ≡ cell_at (cell_of r step) i j → Answers takes fits value r → r ≡ Ok v
  made_value (Ok w) step i j v e h = let same : v ≡ w = cc in ap Ok (sym same)
  made_value (Err Refused.Range) step i j v e h = absurd cc
  made_value (Err Refused.OutOfMemory) step i j v e h = absurd cc

  pub made_refused : (P : MatrixRefused → Type 0) (r : Result M Refused) (step i j : ℕ) (e : MatrixRefused) → Err e ≡ cell_at (cell_of r step) i j → Answers takes fits value r
      → (¬ fits → P (MatrixRefused.Range step i j)) → P MatrixRefused.OutOfMemory → P e
  made_refused P (Ok w) step i j e is h misfit none = absurd cc
  made_refused P (Err Refused.Range) step i j e is h misfit none = let same : e ≡ MatrixRefused.Range step i j = cc in subst P (sym same) (misfit h)
  made_refused P (Err Refused.OutOfMemory) step i j e is h misfit none = let same : e ≡ MatrixRefused.OutOfMemory = cc in subst P (sym same) none
