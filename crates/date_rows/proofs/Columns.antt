-- The columns of a window: one cell is set, or all are moved.
use Rattle.std.proofs.Common.{ℕ, ◌+◌, ◌-◌, ◌*◌, ◌<◌, ◌≤◌, ◌≡◌, ◌≢◌, List, length, map, get_or, set, refl, ap, ◌∙◌, arith, ⊎_elim}
use Rattle.std.specs.List.{CopiedTo, SameBelow, SameFrom}
use Rattle.std.proofs.lemmas.Bool.{cases_eq, cases_lt}
use Rattle.std.proofs.lemmas.List.{length-set, get_or-set_same, get_or-set_other, get_or-map}
use Rattle.dioid.specs.declared.dates.Date.TheVariants.{Early}
use Rattle.date_rows.specs.DateCells.{date_of_cell}
use Rattle.date_rows.specs.Passes.{HaveNext}
use Rattle.date_rows.specs.LastColumns.{WindowCells, AreLastColumns, HaveRowAdded, column_at, window_rows}
use Rattle.date_rows.proofs.Cells.{rows_below, rows_more}

-- a column ends before each later one
column_before : (room t i u : ℕ) → i < room → t < u → t * room + i < u * room
column_before room t i u l m = omega (arith, rows_below room (t + 1) u (omega arith), rows_more room t 1)

-- a cell of one column is no cell of another
columns_differ : (room t i u j : ℕ) → i < room → j < room → t ≢ u → t * room + i ≢ u * room + j
columns_differ room t i u j l m n =
    ⊎_elim
    (λ (q : t < u). λ e. absurd (omega (arith, e, column_before room t i u l q)))
    (λ (q : u ≤ t). λ e. absurd (omega (arith, e, column_before room u j t m (omega (arith, n)))))
    (cases_lt t u)

-- the columns up to one have the row's dates
pub record ColumnsSetTo (room at : ℕ) (old new row : List ℕ) (u : ℕ) : Type 0 where
  pub full : length new ≡ length old
  pub here : (t : ℕ) → t < u → column_at room new t at ≡ get_or row t 0
  pub other : (t i : ℕ) → t < length row → i < room → i ≢ at → column_at room new t i ≡ column_at room old t i

pub column_set : (room at : ℕ) (old new row : List ℕ) (u : ℕ) → at < room → u * room + at < length old → ColumnsSetTo room at old new row u
    → ColumnsSetTo room at old (set new (u * room + at) (get_or row u 0)) row (u + 1)
column_set room at old new row u l full h =
    let v = get_or row u 0 in
    record {
      full = length-set new (u * room + at) v ∙ h.full;
      here = λ t m. ⊎_elim
          (λ (q : t ≡ u). rw q (get_or-set_same new (u * room + at) v 0 (omega (arith, full, h.full))))
          (λ (q : t ≢ u). get_or-set_other new (u * room + at) (t * room + at) v 0 (columns_differ room t at u at l l q) ∙ h.here t (omega (arith, q)))
          (cases_eq t u);
      other = λ t i m n d.
          get_or-set_other new (u * room + at) (t * room + i) v 0
          (⊎_elim
          (λ (q : t ≡ u). λ e. d (omega (arith, e, ap (λ z. z * room) q)))
          (λ (q : t ≢ u). columns_differ room t i u at n l q)
          (cases_eq t u))
          ∙ h.other t i m n d;
    }

-- the columns up to one are moved, and no other
pub record ColumnsMovedTo (width reach room : ℕ) (old new : List ℕ) (u : ℕ) : Type 0 where
  pub full : length new ≡ length old
  pub moved : (t i : ℕ) → t < u → i < reach → column_at room new t i ≡ column_at room old t (room - reach + i)
  pub rest : (t i : ℕ) → u ≤ t → t < width → i < room → column_at room new t i ≡ column_at room old t i

pub column_moved : (width reach room : ℕ) (old now new : List ℕ) (u start dest : ℕ) → reach < room → u < width → length new ≡ length now → ColumnsMovedTo width reach room old now u
    → dest ≡ u * room → start ≡ u * room + (room - reach) → CopiedTo now new start dest reach → SameBelow now new dest → SameFrom now new (dest + reach)
    → ColumnsMovedTo width reach room old new (u + 1)
column_moved width reach room old now new u start dest less in' full h d s copied below from = record {
  full = full ∙ h.full;
  moved = λ t i l m. ⊎_elim
      (λ (q : t < u).
      let before = column_before room t i u (omega arith) q in
      below (t * room + i) 0 (omega (arith, d)) ∙ h.moved t i q m)
      (λ (q : u ≤ t).
      let is : t ≡ u = omega arith in
      let place : start + (u * room + i - dest) ≡ u * room + (room - reach + i) = omega (arith, d, s) in
      rw is
      (copied (u * room + i) 0 (omega (arith, d)) (omega (arith, d))
      ∙ (ap (λ z. get_or now z 0) place ∙ h.rest u (room - reach + i) (omega arith) in' (omega arith))))
      (cases_lt t u);
  rest = λ t i l m n.
      let after = column_before room u (reach - 1) t (omega arith) (omega arith) in
      from (t * room + i) 0 (omega (arith, d, after, rows_below room (u + 1) t l, rows_more room u 1)) ∙ h.rest t i (omega arith) m n;
}

-- the dates of a row
dates_at : (row : List ℕ) (t : ℕ) → t < length row → get_or (map date_of_cell row) t Early ≡ date_of_cell (get_or row t 0)
dates_at row t l = get_or-map date_of_cell row t 0 Early l

-- so the window has the row behind the others
pub window_has_next : (w : WindowCells) (new row : List ℕ) (next : ℕ) → AreLastColumns w → length row ≡ w.width → HaveRowAdded w.reach w.room w.at w.cells new row next
    → HaveNext (window_rows w) (window_rows (record { width = w.width; reach = w.reach; room = w.room; at = next; number = w.number + 1; cells = new })) (map date_of_cell row)
window_has_next w new row next h full added = record {
  width = refl;
  reach = refl;
  number = refl;
  there = omega (arith, h.kept, added.enough);
  kept = added.few;
  last = λ t l o. let in' : t < length row = omega (arith, full) in rw (dates_at row t in') (ap date_of_cell (added.last t in' o));
  before = λ t b l o m. ap date_of_cell (added.before t b (omega (arith, full)) o m);
}
