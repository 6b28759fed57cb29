-- The due dates of a row as numbers: they go on by the gap, never fall, and rise no faster than the gap in each turn.
use Rattle.std.proofs.Common.{ℕ, zero, suc, ◌+◌, ◌-◌, ◌*◌, ◌/◌, ◌<◌, ◌≤◌, ◌≡◌, [], ◌∷◌, true, false, leb, length, get_or, Option, Some, None, refl, sym, ap, ◌∙◌, arith, ⊎_elim}
use Rattle.std.proofs.lemmas.Bool.{cases_Bool, cases_lt}
use Rattle.std.proofs.lemmas.Bool.Decides.{nat_tests}
use Rattle.walk_times.specs.dioid.Dates.{IsAtMostDate}
use Rattle.teg_net.specs.declared.entries.Role.TheVariants.{Input}
use Rattle.teg_net.specs.declared.entries.InputList.{InputList}
use Rattle.teg_net.specs.Limits.{greatest_input_date}
use Rattle.teg_net.specs.Nets.{NetLists, IsInputOf, lists_of}
use Rattle.teg_net.specs.Inputs.{laps_past, moved_by}
use Rattle.teg_net.proofs.InputDates.{one_round, more_rounds, date_le}
use Rattle.walk_times.specs.teg_model.Datings.{as_date}
use Rattle.list_spans.proofs.Listing.{dates_climb}
use Rattle.endless_due.specs.declared.row.EndlessRow.{EndlessRow}
use Rattle.endless_due.specs.EndlessRows.{again_of_row, row_due, IsEndlessRow}
use Rattle.forever_laws.specs.EndlessDues.{RowsGoOn}

abbrev number_in : Option ℕ → ℕ
number_in None = 0
number_in (Some d) = d

-- the due date of firing k
abbrev pub due_number : EndlessRow → ℕ → ℕ
due_number r k = number_in (row_due r k)

-- each firing has one
pub due_is : (r : EndlessRow) (k : ℕ) → row_due r k ≡ Some (due_number r k)
due_is r k =
    ⊎_elim
    (λ (e : leb k (length r.dates) ≡ true). rw e refl)
    (λ (e : leb k (length r.dates) ≡ false). rw e refl)
    (cases_Bool (leb k (length r.dates)))

pub due_only : (r : EndlessRow) (k d : ℕ) → row_due r k ≡ Some d → d ≡ due_number r k
due_only r k d e = ap number_in (sym e)

pub due_listed : (r : EndlessRow) (k : ℕ) → k ≤ length r.dates → due_number r k ≡ get_or r.dates (k - 1) 0
due_listed r k l = let e : leb k (length r.dates) ≡ true = grind (arith, nat_tests) in rw e refl

due_past : (r : EndlessRow) (k m : ℕ) → length r.dates < k → laps_past (length r.dates) r.every k ≡ m → due_number r k ≡ get_or r.dates (k - m * r.every - 1) 0 + m * r.gap
due_past r k m l e =
    let b : leb k (length r.dates) ≡ false = grind (arith, nat_tests) in
    rw b (ap (λ n. get_or r.dates (k - n * r.every - 1) 0 + n * r.gap) e)

-- past the list each due date is that of `every` firings before, plus the gap
goes_back : (r : EndlessRow) (k : ℕ) → 1 ≤ r.every → r.every ≤ length r.dates → length r.dates < k → due_number r k ≡ due_number r (k - r.every) + r.gap
goes_back r k o e l =
    ⊎_elim
    (λ (m : length r.dates < k - r.every).
    let n : ℕ = laps_past (length r.dates) r.every (k - r.every) in
    let far = due_past r k (n + 1) l (more_rounds (length r.dates) r.every k o m) in
    let near = due_past r (k - r.every) n m refl in
    let wide : (n + 1) * r.every ≡ n * r.every + r.every = grind arith in
    let long : (n + 1) * r.gap ≡ n * r.gap + r.gap = grind arith in
    let place : k - (n + 1) * r.every - 1 ≡ k - r.every - n * r.every - 1 = omega arith in
    let same : get_or r.dates (k - (n + 1) * r.every - 1) 0 ≡ get_or r.dates (k - r.every - n * r.every - 1) 0 = ap (λ j. get_or r.dates j 0) place in
    omega arith)
    (λ (m : k - r.every ≤ length r.dates).
    let far = due_past r k 1 l (one_round (length r.dates) r.every k o l m) in
    let near = due_listed r (k - r.every) m in
    let place : k - 1 * r.every - 1 ≡ k - r.every - 1 = omega arith in
    let same : get_or r.dates (k - 1 * r.every - 1) 0 ≡ get_or r.dates (k - r.every - 1) 0 = ap (λ j. get_or r.dates j 0) place in
    omega arith)
    (cases_lt (length r.dates) (k - r.every))

pub due_again : (net : NetLists) (r : EndlessRow) → IsEndlessRow net r → (k : ℕ) → length r.dates < k + r.every → due_number r (k + r.every) ≡ due_number r k + r.gap
due_again net r ok k l =
    let back : k + r.every - r.every ≡ k = omega arith in
    goes_back r (k + r.every) ok.goes_on.some ok.goes_on.enough l ∙ ap (λ j. due_number r j + r.gap) back

-- the same of the row's own words
pub rows_on : RowsGoOn
rows_on net r ok k l =
    due_is r k ∙ (ap (λ (d : ℕ). Some d) (goes_back r k ok.goes_on.some ok.goes_on.enough l) ∙ sym (ap (moved_by r.gap) (due_is r (k - r.every))))

-- listed due dates keep the limit of dates
pub listed_low : (net : NetLists) (r : EndlessRow) → IsEndlessRow net r → (k : ℕ) → k ≤ length r.dates → due_number r k ≤ greatest_input_date
listed_low net r ok k l = let low = date_le r.dates (k - 1) ok.dates_in in let is = due_listed r k l in omega arith

slow_on : (net : NetLists) (r : EndlessRow) → IsEndlessRow net r → (fuel k : ℕ) → k < fuel → r.every * due_number r k ≤ r.every * greatest_input_date + r.gap * (k + r.every)
slow_on net r ok zero k l = absurd (omega arith)
slow_on net r ok (suc fuel) k l =
    ⊎_elim
    (λ (m : length r.dates < k).
    let some = ok.goes_on.some in
    let enough = ok.goes_on.enough in
    let j : ℕ = k - r.every in
    let is : k ≡ j + r.every = omega arith in
    let old = slow_on net r ok fuel j (omega arith) in
    let due : due_number r k ≡ due_number r j + r.gap = ap (due_number r) is ∙ due_again net r ok j (omega arith) in
    let left : r.every * due_number r k ≡ r.every * due_number r j + r.every * r.gap = rw due (grind arith) in
    let right : r.gap * (k + r.every) ≡ r.gap * (j + r.every) + r.gap * r.every = rw is (grind arith) in
    let turned : r.every * r.gap ≡ r.gap * r.every = grind arith in
    omega arith)
    (λ (m : k ≤ length r.dates).
    let low = listed_low net r ok k m in
    let more : r.every * due_number r k ≤ r.every * greatest_input_date = mul-low r.every (due_number r k) greatest_input_date low in
    omega arith)
    (cases_lt (length r.dates) k) where
      mul-low : (a b c : ℕ) → b ≤ c → a * b ≤ a * c
      mul-low a b c l = grind arith

-- due dates rise no faster than the gap in each turn
pub due_slow : (net : NetLists) (r : EndlessRow) → IsEndlessRow net r → (k : ℕ) → r.every * due_number r k ≤ r.every * greatest_input_date + r.gap * (k + r.every)
due_slow net r ok k = slow_on net r ok (suc k) k (omega arith)

-- the row as the list of an input, of a net with that input alone
abbrev as_input : EndlessRow → InputList
as_input r = record { transition = record { index = 0 }; dates = r.dates; again = Some (again_of_row r) }

abbrev lone_input : NetLists
lone_input = lists_of (record { name = []; role = Input } ∷ []) [] []

is_input_list : (net : NetLists) (r : EndlessRow) → IsEndlessRow net r → IsInputOf lone_input (as_input r)
is_input_list net r ok = record {
  is_input = refl;
  few = (let few = ok.few in omega arith);
  dates_in = ok.dates_in;
  never_falls = ok.never_falls;
  again = ok.goes_on;
}

-- due dates never fall
pub due_climbs : (net : NetLists) (r : EndlessRow) → IsEndlessRow net r → (k : ℕ) → 1 ≤ k → IsAtMostDate (as_date (row_due r k)) (as_date (row_due r (k + 1)))
due_climbs net r ok k one = dates_climb lone_input (Some (as_input r)) (is_input_list net r ok) k one
