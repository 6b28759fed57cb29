-- What the rows of a file of due dates without end keep.
use Rattle.std.proofs.Common.{ℕ, zero, suc, ◌<◌, ◌≤◌, ◌+◌, ◌-◌, ◌==◌, ◌&&◌, ◌≡◌, ◌∷◌, [], List, Bool, true, false, length, get_or, map, Option, Some}
use Rattle.std.proofs.Common.{None, Ok, All, AllPairs, inl, inr, refl, subst, arith, leb-true}
use Rattle.std.specs.Prelude.{nat_le, slice_index}
use Rattle.std.specs.List.{list_all}
use Rattle.std.specs.List.Sorted.{IsNonDecreasing}
use Rattle.std.specs.Str.Parse.{digits_value}
use Rattle.std.proofs.lemmas.Bool.{cases_Bool, and_parts}
use Rattle.std.proofs.lemmas.List.Folds.{list_all_at}
use Rattle.std.proofs.lemmas.List.Sorted.{IsNonDecreasingBy-from_default}
use Rattle.csv_records.specs.NumberFields.{is_number}
use Rattle.csv_records.specs.Records.{records_of}
use Rattle.csv_records.proofs.RowLaws.{differ, each_row, rows_once}
use Rattle.teg_net.specs.Limits.{greatest_input_date, greatest_every}
use Rattle.teg_net.specs.Nets.{NetLists}
use Rattle.teg_due.specs.RowNames.{number_named, is_input}
use Rattle.teg_due.proofs.DueRules.{named_in, no_input}
use Rattle.endless_due.specs.declared.row.EndlessRow.{EndlessRow}
use Rattle.endless_due.specs.EndlessRows.{IsEndlessRow, IsEndlessOf, most_endless_dates}
use Rattle.endless_due.specs.EndlessFiles.{has_row, in_endless_limits, rises_from, goes_on, endless_numbered, endless_of, endless_placed, endless_row, is_endless_header}

-- ---- dates

first_below : (before : ℕ) (dates : List ℕ) → rises_from before dates ≡ true → (j : ℕ) → j < length dates → before ≤ get_or dates j 0
first_below before [] h j w = absurd (omega arith)
first_below before (date ∷ dates) h zero w = leb-true before date (and_parts (nat_le before date) (rises_from date dates) h).0
first_below before (date ∷ dates) h (suc j) w =
    let parts = and_parts (nat_le before date) (rises_from date dates) h in
    let low : before ≤ date = leb-true before date parts.0 in
    let high : date ≤ get_or dates j 0 = first_below date dates parts.1 j (omega arith) in
    omega arith

in_order : (before : ℕ) (dates : List ℕ) → rises_from before dates ≡ true → (i j : ℕ) → i ≤ j → j < length dates → get_or dates i 0 ≤ get_or dates j 0
in_order before [] h i j w v = absurd (omega arith)
in_order before (date ∷ dates) h zero zero w v = omega arith
in_order before (date ∷ dates) h zero (suc j) w v = first_below date dates (and_parts (nat_le before date) (rises_from date dates) h).1 j (omega arith)
in_order before (date ∷ dates) h (suc i) zero w v = absurd (omega arith)
in_order before (date ∷ dates) h (suc i) (suc j) w v = in_order date dates (and_parts (nat_le before date) (rises_from date dates) h).1 i j (omega arith) (omega arith)

never_fall : (dates : List ℕ) → rises_from 0 dates ≡ true → IsNonDecreasing dates
never_fall dates h = IsNonDecreasingBy-from_default (λ x. x) dates 0 (in_order 0 dates h)

all_low : (dates : List ℕ) → list_all (λ d. nat_le d greatest_input_date) dates ≡ true → All (λ d. d ≤ greatest_input_date) dates
all_low dates h k d lt = elim (cases_Bool (nat_le (get_or dates k d) greatest_input_date)) [
  | inl low ↦ leb-true (get_or dates k d) greatest_input_date low
  | inr high ↦ cc (h, list_all_at (λ z. nat_le z greatest_input_date) dates k d lt high)
]

-- ---- a row

-- a row that is accepted keeps the rules, and none before it has its transition
pub record IsNewRow (net : NetLists) (rows : List EndlessRow) (r : EndlessRow) : Type 0 where
  pub rule : IsEndlessRow net r
  pub fresh : has_row rows r.transition.index ≡ false

kept_rule : (net : NetLists) (k t every gap : ℕ) (dates : List ℕ) → t < length net.transitions → is_input net t ≡ false → in_endless_limits every gap dates ≡ true → goes_on every gap dates ≡ true
    → IsEndlessRow net (record { row = k; transition = record { index = t }; every = every; gap = gap; dates = dates })
kept_rule net k t every gap dates lt role low on =
    let one = and_parts (nat_le 1 every) (nat_le every greatest_every &&
    (nat_le gap greatest_input_date && (nat_le (length dates) most_endless_dates && list_all (λ d. nat_le d greatest_input_date) dates))) low in
    let two = and_parts (nat_le every greatest_every) (nat_le gap greatest_input_date && (nat_le (length dates) most_endless_dates && list_all (λ d. nat_le d greatest_input_date) dates)) one.1 in
    let three = and_parts (nat_le gap greatest_input_date) (nat_le (length dates) most_endless_dates && list_all (λ d. nat_le d greatest_input_date) dates) two.1 in
    let four = and_parts (nat_le (length dates) most_endless_dates) (list_all (λ d. nat_le d greatest_input_date) dates) three.1 in
    let five = and_parts (rises_from 0 dates) (nat_le every (length dates) && nat_le (slice_index dates (length dates - 1)) (slice_index dates (length dates - every) + gap)) on in
    let six = and_parts (nat_le every (length dates)) (nat_le (slice_index dates (length dates - 1)) (slice_index dates (length dates - every) + gap)) five.1 in
    record {
      in_range = lt;
      no_input = no_input net t role;
      few = leb-true (length dates) most_endless_dates four.0;
      dates_in = all_low dates four.1;
      never_falls = never_fall dates five.0;
      goes_on = record {
        some = leb-true 1 every one.0;
        every_in = leb-true every greatest_every two.0;
        gap_in = leb-true gap greatest_input_date three.0;
        enough = leb-true every (length dates) six.0;
        joins = leb-true (slice_index dates (length dates - 1)) (slice_index dates (length dates - every) + gap) six.1;
      };
    }

numbered_new : (net : NetLists) (rows : List EndlessRow) (k t every gap : ℕ) (dates : List ℕ) (r : EndlessRow)
    → t < length net.transitions → is_input net t ≡ false → endless_numbered rows k t every gap dates ≡ Ok r → IsNewRow net rows r
numbered_new net rows k t every gap dates r lt role e = elim (cases_Bool (has_row rows t)) [
  | inl twice ↦ cc (rw twice at e)
  | inr fresh ↦ elim (cases_Bool (in_endless_limits every gap dates)) [
    | inr out ↦ cc (rw (fresh, out) at e)
    | inl within ↦ elim (cases_Bool (goes_on every gap dates)) [
      | inr falls ↦ cc (rw (fresh, within, falls) at e)
      | inl on ↦
          let same : record { row = k; transition = record { index = t }; every = every; gap = gap; dates = dates } ≡ r = cc (rw (fresh, within, on) at e) in
          subst (IsNewRow net rows) same (record { rule = kept_rule net k t every gap dates lt role within on; fresh = fresh })
    ]
  ]
]

placed_new : (net : NetLists) (rows : List EndlessRow) (k every gap : ℕ) (dates : List ℕ) (name : List ℕ) (o : Option ℕ)
    (r : EndlessRow) → number_named net name ≡ o → endless_placed net rows k o every gap dates ≡ Ok r → IsNewRow net rows r
placed_new net rows k every gap dates name None r named e = cc e
placed_new net rows k every gap dates name (Some t) r named e = elim (cases_Bool (is_input net t)) [
  | inl input ↦ cc (rw input at e)
  | inr other ↦ numbered_new net rows k t every gap dates r (named_in net name t named) other (rw other at e)
]

-- a row that is accepted is new
pub accepted_new : (net : NetLists) (rows : List EndlessRow) (k : ℕ) (fields : List (List ℕ)) (r : EndlessRow) → endless_row net rows k fields ≡ Ok r → IsNewRow net rows r
accepted_new net rows k [] r e = cc e
accepted_new net rows k (a ∷ []) r e = cc e
accepted_new net rows k (a ∷ b ∷ []) r e = cc e
accepted_new net rows k (a ∷ b ∷ c ∷ []) r e = cc e
accepted_new net rows k (name ∷ every ∷ gap ∷ date ∷ dates) r e = elim (cases_Bool (list_all is_number (every ∷ gap ∷ date ∷ dates))) [
  | inl digits ↦ placed_new net rows k (digits_value 10 every) (digits_value 10 gap) (map (digits_value 10) (date ∷ dates)) name (number_named net name) r refl (rw digits at e)
  | inr other ↦ cc (rw other at e)
]

-- two rows have the same transition
abbrev is_same : EndlessRow → EndlessRow → Bool
is_same r d = d.transition.index == r.transition.index

-- the rows of a file of due dates without end keep the rules
pub endless_rules : (net : NetLists) (bytes : List ℕ) (rows : List EndlessRow) → endless_of net bytes ≡ Ok rows → IsEndlessOf net rows
endless_rules net bytes rows e = record {
  each = each_row is_endless_header (endless_row net) (IsEndlessRow net) (λ before k fields r is. (accepted_new net before k fields r is).rule) (records_of bytes) rows e;
  once = λ i j d lt within. differ (get_or rows i d).transition.index (get_or rows j d).transition.index (apart i j d lt within);
}
  where
    apart : AllPairs (λ d r. is_same r d ≡ false) rows
    apart = rows_once is_endless_header (endless_row net) is_same (λ before k fields r is. (accepted_new net before k fields r is).fresh) (records_of bytes) rows e
