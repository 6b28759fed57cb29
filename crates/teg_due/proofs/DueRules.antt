-- What the rows of due files and logs keep.
use Rattle.std.proofs.Common.{ℕ, ◌<◌, ◌≤◌, ◌==◌, ◌&&◌, ◌≡◌, ◌∷◌, [], List, Bool, true, false, length, get_or, Option, Some, None, Ok, AllPairs, inl, inr, refl, subst, arith, leb-true}
use Rattle.std.specs.Prelude.{IsSomeAnd, nat_le, position, slice_get}
use Rattle.std.specs.Option.{option_map_or}
use Rattle.std.specs.Str.{bytes_eq}
use Rattle.std.specs.Str.Parse.{digits_value}
use Rattle.std.proofs.lemmas.Bool.{cases_Bool}
use Rattle.std.proofs.lemmas.Bool.Decides.{nat_tests}
use Rattle.std.proofs.lemmas.List.Quantifiers.{position-Some}
use Rattle.csv_records.specs.NumberFields.{is_number}
use Rattle.csv_records.specs.Records.{records_of}
use Rattle.csv_records.proofs.RowLaws.{differ_in_one, each_row, rows_once}
use Rattle.teg_net.specs.Limits.{greatest_input_date}
use Rattle.teg_net.specs.Nets.{NetLists, IsInput}
use Rattle.teg_net.specs.declared.entries.Role.TheVariants.{Input}
use Rattle.teg_net.specs.declared.entries.Transition.{Transition}
use Rattle.teg_due.specs.declared.rows.DueRow.{DueRow}
use Rattle.teg_due.specs.declared.rows.LogRow.{LogRow}
use Rattle.teg_due.specs.DueFileRows.{due_numbered, due_of, due_placed, due_row, greatest_due_number, has_due, in_due_limits, is_due_header}
use Rattle.teg_due.specs.Logs.{greatest_log_date, is_log_header, log_of, log_placed, log_row}
use Rattle.teg_due.specs.RowNames.{number_named, is_input, is_input_role}
use Rattle.teg_due.specs.RowRules.{IsDueOf, IsDueRow, IsLogOf, IsLogRow}

-- a row that is accepted is a firing that may be due, and is not among those before it
pub record IsNewRow (net : NetLists) (rows : List DueRow) (r : DueRow) : Type 0 where
  pub rule : IsDueRow net r
  pub fresh : has_due rows r.transition.index r.number ≡ false

-- the name of a row is that of a transition of the net
pub named_in : (net : NetLists) (name : List ℕ) (t : ℕ) → number_named net name ≡ Some t → t < length net.transitions
named_in net name t e = first net.transitions t e
  where
    first : (ts : List Transition) (t : ℕ) → position (λ x. bytes_eq x.name name) ts ≡ Some t → t < length ts
    first [] t e = cc e
    first (x ∷ ts) t e = (position-Some (λ x. bytes_eq x.name name) (x ∷ ts) t x e).0

-- a transition that is found to be no input is none
pub no_input : (net : NetLists) (t : ℕ) → is_input net t ≡ false → IsInput net t → ⊥
no_input net t e h = none (slice_get net.transitions t) e h
  where
    none : (o : Option Transition) → option_map_or (λ x. is_input_role x.role) o false ≡ false → IsSomeAnd o (λ x. x.role ≡ Input) → ⊥
    none None e h = h
    none (Some x) e h = cc (rw h at e)

numbered_new : (net : NetLists) (rows : List DueRow) (k t n date : ℕ) (r : DueRow) → t < length net.transitions → is_input net t ≡ false
    → due_numbered (has_due rows t n) k t n date ≡ Ok r → IsNewRow net rows r
numbered_new net rows k t n date r lt role e = elim (cases_Bool (has_due rows t n)) [
  | inl twice ↦ cc (rw twice at e)
  | inr fresh ↦ elim (cases_Bool (in_due_limits n date)) [
    | inr out ↦ cc (rw (fresh, out) at e)
    | inl within ↦
        let same : record { row = k; transition = record { index = t }; number = n; date = date } ≡ r = cc (rw (fresh, within) at e) in
        subst (IsNewRow net rows) same (record {
          rule = record {
            in_range = lt;
            no_input = no_input net t role;
            from_one = low within;
            number_in = high within;
            date_in = early within;
          };
          fresh = fresh;
        })
  ]
]
  where
    low : in_due_limits n date ≡ true → 1 ≤ n
    low h = grind (arith, nat_tests)

    high : in_due_limits n date ≡ true → n ≤ greatest_due_number
    high h = grind (arith, nat_tests)

    early : in_due_limits n date ≡ true → date ≤ greatest_input_date
    early h = grind (arith, nat_tests)

placed_new : (net : NetLists) (rows : List DueRow) (k n date : ℕ) (name : List ℕ) (o : Option ℕ) (r : DueRow) → number_named net name ≡ o → due_placed net rows k o n date ≡ Ok r → IsNewRow net rows r
placed_new net rows k n date name None r named e = cc e
placed_new net rows k n date name (Some t) r named e = elim (cases_Bool (is_input net t)) [
  | inl input ↦ cc (rw input at e)
  | inr other ↦ numbered_new net rows k t n date r (named_in net name t named) other (rw other at e)
]

-- a row that is accepted is new
pub accepted_new : (net : NetLists) (rows : List DueRow) (k : ℕ) (fields : List (List ℕ)) (r : DueRow) → due_row net rows k fields ≡ Ok r → IsNewRow net rows r
accepted_new net rows k [] r e = cc e
accepted_new net rows k (a ∷ []) r e = cc e
accepted_new net rows k (a ∷ b ∷ []) r e = cc e
accepted_new net rows k (name ∷ number ∷ date ∷ []) r e = elim (cases_Bool (is_number number && is_number date)) [
  | inl digits ↦ placed_new net rows k (digits_value 10 number) (digits_value 10 date) name (number_named net name) r refl (rw digits at e)
  | inr other ↦ cc (rw other at e)
]
accepted_new net rows k (a ∷ b ∷ c ∷ d ∷ more) r e = cc e

-- two rows have the same firing
abbrev is_same : DueRow → DueRow → Bool
is_same r d = (d.transition.index == r.transition.index) && (d.number == r.number)

-- the rows of a due file keep the rules
pub due_rules : (net : NetLists) (bytes : List ℕ) (rows : List DueRow) → due_of net bytes ≡ Ok rows → IsDueOf net rows
due_rules net bytes rows e = record {
  each = each_row is_due_header (due_row net) (IsDueRow net) (λ before k fields r is. (accepted_new net before k fields r is).rule) (records_of bytes) rows e;
  once = λ i j d lt within.
      let r = get_or rows i d in
      let s = get_or rows j d in
      differ_in_one r.transition.index s.transition.index r.number s.number (apart i j d lt within);
}
  where
    apart : AllPairs (λ d r. is_same r d ≡ false) rows
    apart = rows_once is_due_header (due_row net) is_same (λ before k fields r is. (accepted_new net before k fields r is).fresh) (records_of bytes) rows e

placed_log : (net : NetLists) (k date : ℕ) (name : List ℕ) (o : Option ℕ) (r : LogRow) → number_named net name ≡ o → log_placed k o date ≡ Ok r → IsLogRow net r
placed_log net k date name None r named e = cc e
placed_log net k date name (Some t) r named e = elim (cases_Bool (nat_le date greatest_log_date)) [
  | inl early ↦
      let same : record { row = k; transition = record { index = t }; date = date } ≡ r = cc (rw early at e) in
      subst (IsLogRow net) same (record { in_range = named_in net name t named; date_in = leb-true date greatest_log_date early })
  | inr late ↦ cc (rw late at e)
]

-- a row of a log that is accepted keeps the rules
accepted_log : (net : NetLists) (rows : List LogRow) (k : ℕ) (fields : List (List ℕ)) (r : LogRow) → log_row net rows k fields ≡ Ok r → IsLogRow net r
accepted_log net rows k [] r e = cc e
accepted_log net rows k (a ∷ []) r e = cc e
accepted_log net rows k (name ∷ date ∷ []) r e = elim (cases_Bool (is_number date)) [
  | inl digits ↦ placed_log net k (digits_value 10 date) name (number_named net name) r refl (rw digits at e)
  | inr other ↦ cc (rw other at e)
]
accepted_log net rows k (a ∷ b ∷ c ∷ more) r e = cc e

-- the rows of a log keep the rules
pub log_rules : (net : NetLists) (bytes : List ℕ) (rows : List LogRow) → log_of net bytes ≡ Ok rows → IsLogOf net rows
log_rules net bytes rows e = each_row is_log_header (log_row net) (IsLogRow net) (accepted_log net) (records_of bytes) rows e
