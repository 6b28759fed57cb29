-- A list of entries by rows, as a table.
use Rattle.std.proofs.Common.{◌≡◌, ℕ, ◌+◌, ◌*◌, ◌/◌, ◌%◌, ◌++◌, ◌∷◌, [], List, refl, subst, sym}
use Rattle.std.specs.Prelude.{⊤}
use Rattle.dioid.specs.declared.algebra.Dioid.{Ghosts as DioidOf}
use Rattle.dioid_matrix.specs.Tables.{Table, table_of}
use Rattle.dioid_matrix.proofs.Filled.{HoldsEach}
use Rattle.dioid_matrix.proofs.Cells.{holds_more}
use Rattle.dioid_matrix.proofs.Places.{entries_held}
use Rattle.dioid_spectra.specs.MadeMatrices.{HasEntries}

module _ {M : Type 0} (d : DioidOf M) where
  -- the first so many places of the list have their values, and each of them is an element
  abbrev pub AreMade : (columns : ℕ) → (ℕ → ℕ → M) → ℕ → List M → Type 0
  AreMade columns value count xs = HoldsEach d count (λ _. ⊤) (λ place. value (place / columns) (place % columns)) xs

  -- one place more
  pub made_more : (columns : ℕ) (value : ℕ → ℕ → M) (count : ℕ) (xs ys : List M) (y : M) → AreMade columns value count xs
      → ys ≡ xs ++ y ∷ [] → y ≡ value (count / columns) (count % columns) → d.is_element y → AreMade columns value (count + 1) ys
  made_more columns value count xs ys y h more same is =
      subst (λ (zs : List M). AreMade columns value (count + 1) zs) (sym more)
      (holds_more d count (λ _. ⊤) (λ place. value (place / columns) (place % columns)) xs y h tt same is)

  -- all places make the table
  pub made_all : (rows columns : ℕ) (value : ℕ → ℕ → M) (xs : List M) (t : Table M) → AreMade columns value (rows * columns) xs
      → t ≡ table_of rows columns xs → HasEntries d rows columns value t
  made_all rows columns value xs t h same = subst (λ (u : Table M). HasEntries d rows columns value u) (sym same) (record {
    rows_are = refl;
    columns_are = refl;
    entries = entries_held d rows columns (λ _ _. ⊤) value xs h;
  })
