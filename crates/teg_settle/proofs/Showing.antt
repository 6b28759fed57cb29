-- A settled form by the rows that show it has their dates.
use Rattle.std.proofs.Common.{ℕ, ◌+◌, ◌-◌, ◌<◌, ◌≤◌, ◌≡◌, List, [], length, get_or, refl, sym, ap, ◌∙◌, arith}
use Rattle.std.specs.Prelude.{ℤ, pos}
use Rattle.std.proofs.lemmas.List.{get_or_default, same_lists}
use Rattle.std.proofs.lemmas.List.FromFn.{get_or-map-range_with_len, length-map-range_with_len}
use Rattle.dioid.specs.declared.dates.Date.{Date}
use Rattle.dioid.specs.declared.dates.Date.TheVariants.{Early}
use Rattle.teg_net.specs.Nets.{NetLists}
use Rattle.periodic_laws.specs.settled_laws.SettledForms.{row_of, row_date}
use Rattle.date_rows.specs.DateTables.{TableDates, date_at}
use Rattle.teg_settle.specs.declared.releases.Repetition.{Repetition}
use Rattle.teg_settle.specs.Copies.{AreShownDates}
use Rattle.teg_settle.specs.ShownForms.{shown_dates, shown_form}
use Rattle.teg_settle.specs.ComparedRows.{read_step}
use Rattle.teg_settle.proofs.Copying.{IsCopy}

-- the row of a transition
row_shown : (rows : TableDates) (f : Repetition) (steps : List ℤ) (t : ℕ) → t < rows.width → row_of (shown_form rows f steps) t ≡ shown_dates rows (f.after + f.period) t
row_shown rows f steps t l = get_or-map-range_with_len (shown_dates rows (f.after + f.period)) 0 rows.width t t [] l (omega arith)

-- a date in it
date_in_row : (rows : TableDates) (count t k : ℕ) → 1 ≤ k → k ≤ count → get_or (shown_dates rows count t) (k - 1) Early ≡ date_at rows t k
date_in_row rows count t k o m =
    let back : (k - 1) + 1 ≡ k = omega arith in
    get_or-map-range_with_len (λ j. date_at rows t (j + 1)) 0 count (k - 1) (k - 1) Early (omega arith) (omega arith) ∙ ap (date_at rows t) back

pub date_shown : (rows : TableDates) (f : Repetition) (steps : List ℤ) (t k : ℕ) → t < rows.width → 1 ≤ k → k ≤ f.after + f.period → row_date (shown_form rows f steps) t k ≡ date_at rows t k
date_shown rows f steps t k l o m = ap (λ r. get_or r (k - 1) Early) (row_shown rows f steps t l) ∙ date_in_row rows (f.after + f.period) t k o m

pub rows_shown : (rows : TableDates) (f : Repetition) (steps : List ℤ) → length (shown_form rows f steps).rows ≡ rows.width
rows_shown rows f steps = length-map-range_with_len (shown_dates rows (f.after + f.period)) 0 rows.width

-- dates that are copied from the rows are those of the transition
pub row_copied : (rows : TableDates) (f : Repetition) (steps : List ℤ) (t : ℕ) (dates : List Date) → t < rows.width
    → AreShownDates rows t (f.after + f.period) dates → dates ≡ row_of (shown_form rows f steps) t
row_copied rows f steps t dates l h =
    let count : ℕ = f.after + f.period in
    let full : length (shown_dates rows count t) ≡ count = length-map-range_with_len (λ j. date_at rows t (j + 1)) 0 count in
    same_lists dates (shown_dates rows count t) (h.long ∙ sym full)
    (λ i d w.
    let back : (i + 1) - 1 ≡ i = omega arith in
    let within : i < count = omega (arith, w, h.long) in
    let here : get_or dates i Early ≡ date_at rows t (i + 1) = ap (λ j. get_or dates j Early) (sym back) ∙ h.same (i + 1) (omega arith) (omega (arith, within)) in
    get_or_default dates i d Early w ∙ (here ∙ sym (get_or-map-range_with_len (λ j. date_at rows t (j + 1)) 0 count i i d within (omega arith))))
    ∙ sym (row_shown rows f steps t l)

-- transitions with one date at each number of the form have one row
pub same_rows : (rows : TableDates) (f : Repetition) (steps : List ℤ) (t u : ℕ) → t < rows.width → u < rows.width
    → ((k : ℕ) → 1 ≤ k → k ≤ f.after + f.period → date_at rows t k ≡ date_at rows u k) → row_of (shown_form rows f steps) t ≡ row_of (shown_form rows f steps) u
same_rows rows f steps t u l m same =
    let count : ℕ = f.after + f.period in
    let long : length (shown_dates rows count t) ≡ count = length-map-range_with_len (λ j. date_at rows t (j + 1)) 0 count in
    row_shown rows f steps t l
    ∙ row_copied rows f steps u (shown_dates rows count t) m (record { long = long; same = λ k o w. date_in_row rows count t k o w ∙ same k o w })

-- so it is a copy of them
pub shown_is_copy : (net : NetLists) (rows : TableDates) (f : Repetition) (steps : List ℤ) → rows.width ≡ length net.transitions → length steps ≡ length net.transitions
    → ((t : ℕ) → t < length net.transitions → get_or steps t (pos 0) ≡ read_step rows f.period t) → IsCopy net rows f (shown_form rows f steps)
shown_is_copy net rows f steps wide count moves = record {
  after = refl;
  period = refl;
  rows_count = rows_shown rows f steps ∙ wide;
  steps_count = count;
  dates = λ t l. record {
    long = ap length (row_shown rows f steps t (omega (arith, wide))) ∙ length-map-range_with_len (λ j. date_at rows t (j + 1)) 0 (f.after + f.period);
    same = λ k o m. date_shown rows f steps t k (omega (arith, wide)) o m;
  };
  moves = moves;
}
