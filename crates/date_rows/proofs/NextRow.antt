-- Rows of a system's least dating have room for the next, and with it behind them are rows of it.
use Rattle.std.proofs.Common.{ℕ, ◌+◌, ◌-◌, ◌*◌, ◌<◌, ◌≤◌, ◌≡◌, ◌++◌, List, length, get_or, refl, sym, subst, ap, ◌∙◌, arith, ⊎_elim, length-append}
use Rattle.std.proofs.lemmas.Bool.{cases_lt}
use Rattle.std.proofs.lemmas.List.{get_or_append_left, get_or-append_right}
use Rattle.dioid.specs.declared.dates.Date.{Date}
use Rattle.dioid.specs.declared.dates.Date.TheVariants.{Early}
use Rattle.teg_net.specs.Nets.{NetLists, IsNet}
use Rattle.teg_net.specs.Limits.{most_rows}
use Rattle.teg_model.specs.Systems.{System}
use Rattle.teg_model.specs.Datings.{implicit_place}
use Rattle.teg_model.proofs.DateFunctions.{Dating}
use Rattle.date_rows.specs.DateTables.{TableDates, HasDatesOf, firing_position, date_in_list}
use Rattle.date_rows.specs.declared.order.OrderedPlace.{OrderedPlace}
use Rattle.date_rows.specs.PlaceOrder.{OrdersPlaces}
use Rattle.date_rows.specs.KeptRows.{IsRows, AreLeastRows, AreFirst, StaysWithin}
use Rattle.date_rows.specs.Passes.{KeptRows, IsRowOf, IsRowOfLeast}
use Rattle.date_rows.specs.RowPasses.{CanMakeRow}
use Rattle.date_rows.proofs.Cells.{rows_before, cell_before}

-- the first dates and the row of the next number are the first dates of one number more
pub first_with_row : (net : NetLists) (x : Dating) (k : ℕ) (before row : List Date) → 1 ≤ k → AreFirst net x (k - 1) before → IsRowOf net x k row → AreFirst net x k (before ++ row)
first_with_row net x k before row o first is =
    let w = length net.transitions in
    record {
      full = omega (arith, length-append before row, first.full, is.full, rows_before w k o);
      same = λ t j l p m.
          ⊎_elim
          (λ (q : j < k).
          get_or_append_left before row Early (firing_position w t j) (omega (arith, cell_before w t j k l p q, first.full)) ∙ first.same t j l p (omega arith))
          (λ (q : k ≤ j).
          let last : j ≡ k = omega arith in
          let at : firing_position w t k - length before ≡ t = omega (arith, first.full) in
          rw last (get_or-append_right before row (length before) (firing_position w t k) Early refl (omega (arith, first.full)) ∙ (ap (λ z. get_or row z Early) at ∙ is.same t l)))
          (cases_lt j k);
    }

-- rows of the least dating are its first dates
first_of_rows : (net : NetLists) (x : Dating) (rows : TableDates) → IsRows rows → rows.width ≡ length net.transitions → HasDatesOf net x rows → AreFirst net x rows.count rows.dates
first_of_rows net x rows is wide has = record {
  full = is.full ∙ ap (λ w. rows.count * w) wide;
  same = λ t k l o m. ap (λ w. date_in_list w rows.dates t k) (sym wide) ∙ has t k l o m;
}

-- and with the row of the next number behind them they are rows of it
pub rows_with_next : (net : NetLists) (s : System) (rows : TableDates) (row : List Date) → IsRows rows → AreLeastRows net s rows → IsRowOfLeast net s (rows.count + 1) row
    → AreLeastRows net s (record { width = rows.width; count = rows.count + 1; dates = rows.dates ++ row })
rows_with_next net s rows row is h next = record {
  width = h.width;
  least = λ x least t k l o m.
      let last : rows.count + 1 - 1 ≡ rows.count = omega arith in
      let before : AreFirst net x (rows.count + 1 - 1) rows.dates = subst (λ j. AreFirst net x j rows.dates) (sym last) (first_of_rows net x rows is h.width (h.least x least)) in
      ap (λ w. date_in_list w (rows.dates ++ row) t k) h.width ∙ (first_with_row net x (rows.count + 1) rows.dates row (omega arith) before (next x least)).same t k l o m;
}

-- the rows of a table, all of them kept
abbrev pub table_rows : TableDates → KeptRows
table_rows rows = record {
  width = rows.width;
  reach = rows.count;
  number = rows.count;
  kept = rows.count;
  back = λ t b. date_in_list rows.width rows.dates t (rows.count + 1 - b);
}

-- of these the next row can be made, in cells that hold its dates
pub can_make_next : (net : NetLists) (turns : List OrderedPlace) (s : System) (most : ℕ) (can_be_early : Type 0) (rows : TableDates) → IsNet net → OrdersPlaces net turns
    → ((t : ℕ) → s.initial (implicit_place t) 1 ≡ Early → can_be_early) → StaysWithin most (rows.count + 1) s → rows.count < most_rows → AreLeastRows net s rows
    → CanMakeRow net turns s most can_be_early (table_rows rows) (rows.count + 1)
can_make_next net turns s most can_be_early rows ok o early bounded few h = record {
  rules = ok;
  order = o;
  early = early;
  bounded = bounded;
  one = omega arith;
  few = omega (arith, few);
  reach = record { width = h.width; last = λ l. omega (arith, l); tokens = λ i d l m. omega (arith, m) };
  past = λ x least. record { same = λ t b l o m. h.least x least t (rows.count + 1 - b) l (omega (arith, m)) (omega (arith, o)) };
}
