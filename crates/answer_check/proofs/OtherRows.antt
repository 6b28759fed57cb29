-- The first row of a list that is not that of the least dating.
use Rattle.std.proofs.Common.{ℕ, zero, suc, ◌+◌, ◌-◌, ◌*◌, ◌<◌, ◌≤◌, ◌≡◌, List, length, take, sym, ap, subst, ◌∙◌, arith, ⊎_elim}
use Rattle.std.proofs.lemmas.Bool.{cases_lt}
use Rattle.std.proofs.lemmas.List.{get_or-take, length-take-le, take_all}
use Rattle.dioid.specs.declared.dates.Date.{Date}
use Rattle.dioid.specs.declared.dates.Date.TheVariants.{Early}
use Rattle.teg_net.specs.Nets.{NetLists, IsNet}
use Rattle.teg_model.specs.Datings.{IsLeastDating}
use Rattle.dating_certificates.specs.CheckedRows.{AreFirstRows, AreRowsOf, date_in_rows}
use Rattle.answer_check.specs.ListReading.{IsOtherRow}
use Rattle.answer_check.proofs.ListedRows.{first_of_least, least_date}

pub row_fits : (row count width : ℕ) → row < count → row * width + width ≤ count * width
row_fits row count width l =
    let more : ℕ = count - (row + 1) in
    let e : count ≡ (row + 1) + more = omega (arith, l) in
    subst (λ (n : ℕ). row * width + width ≤ n * width) (sym e) (omega arith)

-- no rows are the first of the least dating
none_first : (net : NetLists) (dates : List Date) → length dates ≡ 0 → AreFirstRows net dates
none_first net dates none = record {
  rows = 0;
  whole = record { whole = omega (arith, none); few = omega arith };
  same = λ x least t k l o m. absurd (omega (arith, o, m));
}

-- the first so many rows
abbrev pub rows_up_to : NetLists → List Date → ℕ → List Date
rows_up_to net dates row = take (row * length net.transitions) dates

up_to_long : (net : NetLists) (dates : List Date) (count row : ℕ) → AreRowsOf net dates count → row ≤ count → row * length net.transitions ≤ length dates
up_to_long net dates zero row rows l = let none : row ≡ 0 = omega (arith, l) in subst (λ (n : ℕ). n * length net.transitions ≤ length dates) (sym none) (omega arith)
up_to_long net dates (suc count) zero rows l = omega arith
up_to_long net dates (suc count) (suc row) rows l =
    let width : ℕ = length net.transitions in
    let fits : row * width + width ≤ suc count * width = row_fits row (suc count) width (omega (arith, l)) in
    omega (arith, fits, rows.whole)

-- a date of them
date_up_to : (net : NetLists) (dates : List Date) (row t k : ℕ) → t < length net.transitions → 1 ≤ k → k ≤ row
    → date_in_rows (length net.transitions) (rows_up_to net dates row) t k ≡ date_in_rows (length net.transitions) dates t k
date_up_to net dates row t k l o m =
    let width : ℕ = length net.transitions in
    let fits : (k - 1) * width + width ≤ row * width = row_fits (k - 1) row width (omega (arith, o, m)) in
    get_or-take (row * width) dates ((k - 1) * width + t) Early (omega (arith, fits, l))

-- between these two rows the first that is not right is looked for
pub record IsBetween (net : NetLists) (dates : List Date) (count right wrong : ℕ) : Type 0 where
  pub below : right < wrong
  pub within : wrong ≤ count
  pub first : AreFirstRows net (rows_up_to net dates right)
  pub other : AreFirstRows net (rows_up_to net dates wrong) → ⊥

pub between_begins : (net : NetLists) (dates : List Date) (count : ℕ) → AreRowsOf net dates count → (AreFirstRows net dates → ⊥) → IsBetween net dates count 0 count
between_begins net dates count rows other = record {
  below = ⊎_elim
      (λ (l : 0 < count). l)
      (λ (none : count ≤ 0).
      let zero' : count ≡ 0 = omega (arith, none) in
      let empty : length dates ≡ 0 * length net.transitions = rows.whole ∙ ap (λ (n : ℕ). n * length net.transitions) zero' in
      absurd (other (none_first net dates (omega (arith, empty)))))
      (cases_lt 0 count);
  within = omega arith;
  first = (let empty : 0 * length net.transitions ≡ 0 = omega arith in none_first net (rows_up_to net dates 0) (length-take-le (0 * length net.transitions) dates (omega (arith, empty)) ∙ empty));
  other = λ first. other (subst (AreFirstRows net) (take_all (count * length net.transitions) dates (omega (arith, rows.whole))) first);
}

-- where they are one after the other, the second is that row
pub between_ends : (net : NetLists) (dates : List Date) (count right wrong : ℕ) → IsNet net → AreRowsOf net dates count → IsBetween net dates count right wrong → wrong ≤ right + 1
    → IsOtherRow net (date_in_rows (length net.transitions) dates) count wrong
between_ends net dates count right wrong ok rows h next =
    let below = h.below in
    let within = h.within in
    let up = up_to_long net dates count in
    let before : (x : ℕ → ℕ → Date) → IsLeastDating net x → (t k : ℕ) → t < length net.transitions → 1 ≤ k → k < wrong → date_in_rows (length net.transitions) dates t k ≡ x t k =
    λ x least t k l o m.
    let low : k ≤ right = omega (arith, m, next) in
    sym (date_up_to net dates right t k l o low)
    ∙ least_date net (rows_up_to net dates right) right ok h.first (length-take-le (right * length net.transitions) dates (up right rows (omega (arith, below, within)))) x least t k l o low in
    record {
      some = omega (arith, below);
      within = within;
      before = before;
      other = λ x least equal. h.other
          (first_of_least net (rows_up_to net dates wrong) wrong ok (let few = rows.few in omega (arith, few, within))
          (length-take-le (wrong * length net.transitions) dates (up wrong rows within)) x least
          (λ t k l o m. date_up_to net dates wrong t k l o m
          ∙ ⊎_elim
          (λ (p : k < wrong). before x least t k l o p)
          (λ (p : wrong ≤ k). (let e : k ≡ wrong = omega (arith, m, p) in subst (λ (n : ℕ). date_in_rows (length net.transitions) dates t n ≡ x t n) (sym e) (equal t l)))
          (cases_lt k wrong)));
    }
