-- Rows that the least dating with all inputs at 0 exceeds.
use Rattle.std.proofs.Common.{ℕ, ◌+◌, ◌<◌, ◌≤◌, ◌≡◌, List, true, false, eqb, length, get_or, sym, ap, ◌∙◌, arith, ⊎_elim}
use Rattle.std.specs.Prelude.{ℤ, pos, Option, Some, None, IfNone, IfSome, All}
use Rattle.std.proofs.lemmas.Bool.{cases_Bool}
use Rattle.std.proofs.lemmas.Int.{ints}
use Rattle.std.proofs.lemmas.List.{get_or-take, length-take-le}
use Rattle.std.proofs.lemmas.Option.{slice_get-get_or}
use Rattle.date_rows.specs.dioid.declared.dates.Date.{Date}
use Rattle.date_rows.specs.dioid.declared.dates.Date.TheVariants.{Early, At as on_date, Never}
use Rattle.date_rows.proofs.dioid_proofs.DateOrder.{at_most_is}
use Rattle.teg_net.specs.Limits.{greatest_input_date}
use Rattle.teg_net.specs.Nets.{NetLists, IsNet, without_inputs}
use Rattle.teg_net.specs.ReadyDates.{start_date}
use Rattle.teg_net.specs.Walks.{walk_time}
use Rattle.teg_check.specs.Ranks.{IsRanking}
use Rattle.date_rows.specs.teg_model.Datings.{IsLeastUnder, IsLeastDating}
use Rattle.date_rows.proofs.teg_model_proofs.OfNet.{net_ends}
use Rattle.date_rows.proofs.teg_model_proofs.Within.{AreWithin, least_within}
use Rattle.date_rows.specs.DateCells.{no_number, date_of_cell}
use Rattle.date_rows.specs.DateTables.{most_numbers}
use Rattle.due_laws.specs.MeetingDueDates.{InputsMeet, inputs_at_zero}
use Rattle.teg_due.specs.declared.rows.DueRow.{DueRow}
use Rattle.teg_due.specs.RowRules.{due_in}
use Rattle.teg_jit.specs.DueDates.{NameFirings}
use Rattle.teg_jit.specs.DueNumbers.{AreDatesOfRows, AreNumbersOfRows}
use Rattle.teg_jit.specs.LateRefusals.{KeepsRow, IsFirstLateDue}
use Rattle.teg_jit.specs.LatestCells.{most_cell_date}
use Rattle.teg_due.proofs.DueOnce.{no_row}
use Rattle.teg_due.proofs.DueRows.{row_of_due}
use Rattle.teg_jit.proofs.Tight.{ranks_of}
use Rattle.teg_jit.proofs.LateWalks.{Reached, reached}

-- ---- dates of the dating

-- without input lists each input waits for nothing
pub bare_least : (net : NetLists) (x : ℕ → ℕ → Date) → IsLeastDating (without_inputs net) x → IsLeastUnder net inputs_at_zero x
bare_least net x h = record {
  feasible = record { places = h.feasible.places; inputs = h.feasible.inputs };
  least = λ y f t k l o. h.least y (record { places = f.places; inputs = f.inputs }) t k l o;
}

-- each least date is a number, and a small one
pub date_is_small : (net : NetLists) (ranks : List ℕ) (x : ℕ → ℕ → Date) → IsNet net → IsRanking net ranks
    → IsLeastUnder net inputs_at_zero x → (t k : ℕ) → t < length net.transitions → 1 ≤ k → k ≤ most_numbers
    → (n : ℕ) × (n < most_cell_date) × (x t k ≡ on_date (pos n))
date_is_small net ranks x ok r h t k l o few =
    let rr = ranks_of net ranks ok r in
    let g : Reached net x t k = reached net x 400 (λ v. get_or ranks v 0) (net_ends net ok) rr h t k l o in
    let n : ℕ = start_date net g.from g.number + walk_time net g.steps in
    let w : AreWithin net inputs_at_zero (λ j. greatest_input_date) =
    record { grows = λ j m q. omega arith; ready = omega arith; inputs = λ v j q i. (omega (arith, ints), omega (arith, ints)) } in
    let small = rw g.is at (least_within net inputs_at_zero x 400 (λ v. get_or ranks v 0) (λ j. greatest_input_date) ok rr w h t k l o) in
    let low = rr.below t in
    (n, omega (arith, ints, small.1), g.is)

-- ---- dates as numbers

number_of : Date → ℤ
number_of Early = pos 0
number_of (on_date z) = z
number_of Never = pos 0

pub number_is : (a b : ℤ) → on_date a ≡ on_date b → a ≡ b
unfolding number_of
number_is a b e = ap number_of e

-- ---- the loop

pub first_late_is : (x : ℕ → ℕ → Date) (rows : List DueRow) (i least : ℕ) (r : DueRow)
    → ((j : ℕ) (q : DueRow) → j < length rows → j < i → KeepsRow x (get_or rows j q)) → i < length rows
    → ((q : DueRow) → get_or rows i q ≡ r) → x r.transition.index r.number ≡ on_date (pos least) → r.date < least
    → IsFirstLateDue x rows r.transition r.number r.date least
first_late_is x rows i least r kept l at is late = record {
  before = i;
  kept = λ j q m.
      let long = length-take-le i rows (omega arith) in
      rw (get_or-take i rows j q (omega arith)) (kept j q (omega arith) (omega arith));
  names = rw (slice_get-get_or rows i r l) (ap (λ z. z.transition) (at r), ap (λ z. z.number) (at r), ap (λ z. z.date) (at r));
  is_least = is;
  late = late;
}

pub all_kept : (net : NetLists) (x : ℕ → ℕ → Date) (rows : List DueRow) → IsLeastUnder net inputs_at_zero x → All (KeepsRow x) rows → InputsMeet net (due_in rows) inputs_at_zero
all_kept net x rows h kept = (
  x,
  h,
  λ t k d l o due.
      let r = row_of_due rows t k d due in
      let named = r.2 no_row in
      rw (named.0, named.1, named.2) at (kept r.0 no_row r.1),
)

no_never : (z : ℤ) → Never ≡ on_date z → ⊥
no_never z e = at_most_is Never (on_date z) e

-- the number of eight bytes that stands for a number's date is the number
pub cell_is : (c n : ℕ) → date_of_cell c ≡ on_date (pos n) → c ≡ n
cell_is c n e =
    ⊎_elim
    (λ (q : eqb c no_number ≡ true). absurd (no_never (pos n) (rw q at e)))
    (λ (q : eqb c no_number ≡ false).
    let is : pos c ≡ pos n = number_is (pos c) (pos n) (rw q at e) in
    omega (arith, ints, is))
    (cases_Bool (eqb c no_number))

-- without input lists the dates of rows are small numbers
row_has_number :
    (net : NetLists) (ranks : List ℕ) (x : ℕ → ℕ → Date) (rows : List DueRow) (dates : List ℕ) → IsNet net → IsRanking net ranks
    → IsLeastUnder net inputs_at_zero x → NameFirings net rows → All (λ r. r.number ≤ most_numbers) rows
    → AreDatesOfRows x rows dates → (i : ℕ) (d : DueRow) → i < length rows
    → (get_or dates i 0 < most_cell_date) × (x (get_or rows i d).transition.index (get_or rows i d).number ≡ on_date (pos (get_or dates i 0)))
row_has_number net ranks x rows dates ok r h names few all i d l =
    let own = names.each i d l in
    let n = date_is_small net ranks x ok r h (get_or rows i d).transition.index (get_or rows i d).number own.in_range own.from_one (few i d l) in
    let same : get_or dates i 0 ≡ n.0 = cell_is (get_or dates i 0) n.0 (sym (all.each i l d) ∙ n.2) in
    rw same (n.1, n.2)

pub rows_have_numbers :
    (net : NetLists) (ranks : List ℕ) (x : ℕ → ℕ → Date) (rows : List DueRow) (dates : List ℕ) → IsNet net → IsRanking net ranks
    → IsLeastUnder net inputs_at_zero x → NameFirings net rows → All (λ r. r.number ≤ most_numbers) rows
    → AreDatesOfRows x rows dates → AreNumbersOfRows x rows dates
rows_have_numbers net ranks x rows dates ok r h names few all = record {
  count = all.count;
  small = λ i l. (row_has_number net ranks x rows dates ok r h names few all i no_row l).0;
  each = λ i d l. (row_has_number net ranks x rows dates ok r h names few all i d l).1;
}

-- ---- options

pub none_map : {X P Q : Type 0} (o : Option X) → IfNone o P → (P → Q) → IfNone o Q
none_map None h f = f h
none_map (Some x) h f = tt

pub some_map : {X : Type 0} {P Q : X → Type 0} (o : Option X) → IfSome o P → ((x : X) → P x → Q x) → IfSome o Q
some_map None h f = tt
some_map (Some x) h f = f x h
