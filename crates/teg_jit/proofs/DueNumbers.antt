-- The least dates at the rows of a due list.
use Rattle.std.proofs.Common.{ℕ, ◌+◌, ◌<◌, ◌≤◌, ◌≡◌, ◌≢◌, List, [], ◌∷◌, ◌++◌, length, get_or, set, map, sym, ap, subst, ◌∙◌, arith, ⊎_elim}
use Rattle.std.specs.Prelude.{All, Contains}
use Rattle.std.proofs.lemmas.Bool.{cases_eq, cases_lt}
use Rattle.std.proofs.lemmas.List.{get_or-map, get_or-set_same, get_or-set_other, length-set}
use Rattle.std.proofs.lemmas.List.Elements.{All-push, Contains-push, Contains-append_left}
use Rattle.date_rows.specs.dioid.declared.dates.Date.{Date}
use Rattle.date_rows.specs.dioid.declared.dates.Date.TheVariants.{Early}
use Rattle.teg_net.specs.Nets.{NetLists}
use Rattle.date_rows.specs.teg_model.Datings.{IsLeastDating}
use Rattle.date_rows.specs.DateCells.{date_of_cell}
use Rattle.teg_due.specs.declared.rows.DueRow.{DueRow}
use Rattle.teg_jit.specs.declared.due_numbers.Numbered.{Numbered}
use Rattle.teg_jit.specs.DueDates.{NameFirings}
use Rattle.teg_jit.specs.DueNumbers.{IsNumbered, AreRowsNumbered, HaveRow, IsDateOfRow, AreDatesOfRows}
use Rattle.teg_due.proofs.DueOnce.{no_row}

-- ---- the rows in the order of their numbers

-- the first i rows
pub record NumberedTo (rows : List DueRow) (order : List Numbered) (i : ℕ) : Type 0 where
  pub known : All (IsNumbered rows) order
  pub all : (k : ℕ) (d : DueRow) → k < i → k < length rows → Contains order (record { number = (get_or rows k d).number; index = k })

pub numbered_more :
    (rows : List DueRow) (order : List Numbered) (i : ℕ) (r : DueRow) → NumberedTo rows order i → i < length rows → ((d : DueRow) → get_or rows i d ≡ r)
    → NumberedTo rows (order ++ record { number = r.number; index = i } ∷ []) (i + 1)
numbered_more rows order i r h l at =
    let new : Numbered = record { number = r.number; index = i } in
    record {
      known = All-push (IsNumbered rows) order new h.known (record { in_range = l; number = λ d. ap (λ z. z.number) (at d) });
      all = λ k d m n.
          ⊎_elim
          (λ (q : k < i). Contains-append_left order (new ∷ []) (record { number = (get_or rows k d).number; index = k }) (h.all k d q n))
          (λ (q : i ≤ k). let is : k ≡ i = omega arith in rw (is, at d) (Contains-push order new))
          (cases_lt k i);
    }

-- ---- dates taken

-- the first i of the order have their dates, and the next has a number that is not behind
pub record TakenTo (net : NetLists) (rows : List DueRow) (order : List Numbered) (number : ℕ) (cells dates : List ℕ) (i : ℕ) : Type 0 where
  pub full : length cells ≡ length net.transitions
  pub count : length dates ≡ length rows
  pub behind : (j : ℕ) (o : Numbered) → i ≤ j → j < length order → number ≤ (get_or order j o).number
  pub row : HaveRow net number cells
  pub taken : (x : ℕ → ℕ → Date) → IsLeastDating net x → (j : ℕ) (o : Numbered) → j < i → j < length order → IsDateOfRow x rows dates (get_or order j o).index

abbrev pub no_numbered : Numbered
no_numbered = record { number = 0; index = 0 }

-- a place of the order before the next that is not this one's row comes before it
earlier : (order : List Numbered) (i j : ℕ) (q o : Numbered) → ((d : Numbered) → get_or order i d ≡ o) → j < i + 1 → (get_or order j q).index ≢ o.index → j < i
earlier order i j q o at m apart =
    ⊎_elim
    (λ (l : j < i). l)
    (λ (l : i ≤ j).
    let is : j ≡ i = omega arith in
    let same : (get_or order j q).index ≡ o.index = ap (λ z. (get_or order z q).index) is ∙ ap (λ z. z.index) (at q) in
    absurd (apart same))
    (cases_lt j i)

pub take_more :
    (net : NetLists) (rows : List DueRow) (order : List Numbered) (number k : ℕ) (before cells dates : List ℕ) (i cell : ℕ)
    (o : Numbered) → AreRowsNumbered rows order → NameFirings net rows → TakenTo net rows order number before dates i → i < length order
    → ((q : Numbered) → get_or order i q ≡ o) → o.number ≡ k → length cells ≡ length net.transitions → HaveRow net k cells → cell ≡ get_or cells (get_or rows o.index no_row).transition.index 0
    → ((d : DueRow) → get_or rows o.index d ≡ get_or rows o.index no_row)
    → TakenTo net rows order k cells (set dates o.index cell) (i + 1)
take_more net rows order number k before cells dates i cell o ord names h l at is full row cell_is read =
    let r : DueRow = get_or rows o.index no_row in
    let known : IsNumbered rows o = rw (at no_numbered) at (ord.known i no_numbered l) in
    let own = names.each o.index no_row known.in_range in
    let number_is : r.number ≡ k = known.number no_row ∙ is in
    let fresh : List ℕ = set dates o.index cell in
    let here : get_or fresh o.index 0 ≡ cell = get_or-set_same dates o.index cell 0 (omega (arith, h.count, known.in_range)) in
    record {
      full = full;
      count = length-set dates o.index cell ∙ h.count;
      behind = λ j q m n.
          let sorted = ord.sorted i j q (omega arith) n in
          let this : (get_or order i q).number ≡ k = ap (λ z. z.number) (at q) ∙ is in
          omega (arith, sorted, this);
      row = row;
      taken = λ x least j q m n.
          ⊎_elim
          (λ (same : (get_or order j q).index ≡ o.index).
          rw same (λ d.
          let one : 1 ≤ k = omega (arith, own.from_one, number_is) in
          let date = ((row one).same x least).same r.transition.index own.in_range in
          let read_cell : get_or (map date_of_cell cells) r.transition.index Early ≡ date_of_cell (get_or cells r.transition.index 0) =
          get_or-map date_of_cell cells r.transition.index 0 Early (omega (arith, full, own.in_range)) in
          rw (read d, number_is, here, cell_is) (sym date ∙ read_cell)))
          (λ (apart : (get_or order j q).index ≢ o.index).
          let older : j < i = earlier order i j q o at m apart in
          let there : get_or fresh (get_or order j q).index 0 ≡ get_or dates (get_or order j q).index 0 = get_or-set_other dates o.index (get_or order j q).index cell 0 apart in
          λ d. rw there (h.taken x least j q older n d))
          (cases_eq (get_or order j q).index o.index);
    }

-- with all of the order each row has its date
pub all_taken :
    (net : NetLists) (rows : List DueRow) (order : List Numbered) (number : ℕ) (cells dates : List ℕ) (i : ℕ)
    → AreRowsNumbered rows order → TakenTo net rows order number cells dates i → length order ≤ i
    → (x : ℕ → ℕ → Date) → IsLeastDating net x → AreDatesOfRows x rows dates
all_taken net rows order number cells dates i ord h end x least = record {
  count = h.count;
  each = λ k l.
      let there = ord.all k no_row l in
      let o : Numbered = record { number = (get_or rows k no_row).number; index = k } in
      let taken = h.taken x least there.0 o (omega (arith, there.1)) there.1 in
      subst (IsDateOfRow x rows dates) (ap (λ z. z.index) there.2) taken;
}
