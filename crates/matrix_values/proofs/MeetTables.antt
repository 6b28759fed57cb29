-- A list of meets by rows, as the meet of two tables.
use Rattle.std.proofs.Common.{◌≡◌, ℕ, ◌<◌, ◌≤◌, ◌+◌, ◌*◌, ◌/◌, ◌%◌, List, refl, sym, subst, arith, ◌++◌, ◌∷◌, []}
use Rattle.dioid.specs.DioidAxioms.{IsAtMost, ResidualLaws}
use Rattle.dioid.specs.declared.algebra.Dioid.{Ghosts as DioidOf}
use Rattle.dioid.specs.declared.algebra.Residuated.{Ghosts as ResiduatedOf}
use Rattle.dioid_matrix.specs.Tables.{AreElements, IsFirstMisfit, Table, entry_of, table_of}
use Rattle.dioid_matrix.specs.declared.refusals.MatrixRefused.{MatrixRefused}
use Rattle.dioid_matrix.specs.declared.refusals.MatrixRefused.TheVariants.{Count, Shape, Range, OutOfMemory}
use Rattle.dioid_matrix.proofs.Cells.{holds_more}
use Rattle.dioid_matrix.proofs.Filled.{HoldsEach}
use Rattle.dioid_matrix.proofs.Places.{entries_held, first_misfit, fits_held}
use Rattle.matrix_values.specs.MatrixMeets.{EntryMeetFits, IsMeetOfTables, IsWhyNoEntryMeet, IsWhyNoMeet}

module _ {M : Type 0} (d : DioidOf M) (l : ResiduatedOf M) (a b : Table M) where
  -- the meet of the entries in row i and column j
  abbrev pub entry_meet_of : ℕ → ℕ → M
  entry_meet_of i j = l.meet (entry_of d a i j) (entry_of d b i j)

  -- the first so many places of the list have the meets of the entries there
  abbrev pub AreMeets : ℕ → ℕ → List M → Type 0
  AreMeets columns count xs =
      HoldsEach d count (λ place. EntryMeetFits d l a b (place / columns) (place % columns)) (λ place. entry_meet_of (place / columns) (place % columns)) xs

  -- one place more
  pub meets_more : (columns count : ℕ) (xs : List M) (y : M) → AreMeets columns count xs → EntryMeetFits d l a b (count / columns) (count % columns)
      → y ≡ entry_meet_of (count / columns) (count % columns) → d.is_element y → AreMeets columns (count + 1) (xs ++ y ∷ [])
  meets_more columns count xs y h fits same is =
      holds_more d count (λ place. EntryMeetFits d l a b (place / columns) (place % columns)) (λ place. entry_meet_of (place / columns) (place % columns)) xs y h fits same is

  -- all places make the meet
  pub meet_made : ResidualLaws d.is_element d.sum d.product l.left l.meet → a.columns ≡ b.columns → AreElements d a.entries → AreElements d b.entries
      → (xs : List M) → AreMeets b.columns (a.rows * b.columns) xs → (t : Table M) → t ≡ table_of a.rows b.columns xs → IsMeetOfTables d l a b t
  meet_made residuals alike ea eb xs h t same =
      let fits = λ (i j : ℕ). EntryMeetFits d l a b i j in
      let value : ℕ → ℕ → M = entry_meet_of in
      let is : (i j : ℕ) → i < a.rows → j < a.columns → entry_of d (table_of a.rows b.columns xs) i j ≡ value i j =
      λ i j hi hj. entries_held d a.rows b.columns fits value xs h i j hi (omega (arith, alike, hj)) in
      let greatest = λ (x : ℕ → ℕ → M) (ex : (i j : ℕ) → d.is_element (x i j)) (i j : ℕ).
      residuals.meet_greatest (x i j) (entry_of d a i j) (entry_of d b i j) (ex i j) (ea (i * a.columns + j)) (eb (i * b.columns + j)) in
      subst (λ (u : Table M). IsMeetOfTables d l a b u) (sym same) (record {
        rows = refl;
        columns = sym alike;
        entries = is;
        fit = λ i j hi hj. fits_held d a.rows b.columns fits value xs h i j hi (omega (arith, alike, hj));
        greatest = λ x ex. (
          (λ both i j hi hj. subst (λ (z : M). IsAtMost d.sum (x i j) z) (sym (is i j hi hj)) ((greatest x ex i j).1 (both.0 i j hi hj, both.1 i j hi hj))),
          (λ under. (
            (λ i j hi hj. ((greatest x ex i j).0 (subst (λ (z : M). IsAtMost d.sum (x i j) z) (is i j hi hj) (under i j hi hj))).0),
            (λ i j hi hj. ((greatest x ex i j).0 (subst (λ (z : M). IsAtMost d.sum (x i j) z) (is i j hi hj) (under i j hi hj))).1),
          )),
        );
      })

  -- a meet that does not fit, where those before it do
  pub meet_misfits : (place : ℕ) → a.columns ≡ b.columns → 1 ≤ b.columns → place < a.rows * b.columns
      → ((p : ℕ) → p < place → EntryMeetFits d l a b (p / b.columns) (p % b.columns))
      → (e : MatrixRefused) → IsWhyNoEntryMeet d l a b (place / b.columns) (place % b.columns) e → IsWhyNoMeet d l a b e
  meet_misfits place alike some within before (Count wanted given) h = h
  meet_misfits place alike some within before (Shape left_columns right_rows) h = h
  meet_misfits place alike some within before (Range step row column) h =
      let first : IsFirstMisfit a.rows b.columns (λ i j. EntryMeetFits d l a b i j) (place / b.columns) (place % b.columns) =
      first_misfit a.rows b.columns place (λ i j. EntryMeetFits d l a b i j) some (record { within = within; before = before; here = h.3 }) in
      let at_row = subst (λ (m : ℕ). IsFirstMisfit a.rows b.columns (λ i j. EntryMeetFits d l a b i j) m (place % b.columns)) (sym h.1) first in
      let at_column = subst (λ (m : ℕ). IsFirstMisfit a.rows b.columns (λ i j. EntryMeetFits d l a b i j) row m) (sym h.2) at_row in
      (h.0, subst (λ (n : ℕ). IsFirstMisfit a.rows n (λ i j. EntryMeetFits d l a b i j) row column) (sym alike) at_column)
  meet_misfits place alike some within before OutOfMemory h = h
