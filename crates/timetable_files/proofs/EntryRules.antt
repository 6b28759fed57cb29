-- What the entries of a timetable's file keep.
use Rattle.std.proofs.Common.{ℕ, ◌<◌, ◌≤◌, ◌&&◌, ◌≡◌, ◌∷◌, [], List, Bool, true, false, length, get_or, Option, Some, None, Result, Ok, AllPairs, inl, inr, refl, subst, arith}
use Rattle.std.specs.Prelude.{nat_le}
use Rattle.std.specs.Str.Parse.{digits_value}
use Rattle.std.proofs.lemmas.Bool.{cases_Bool}
use Rattle.std.proofs.lemmas.Bool.Decides.{nat_tests}
use Rattle.csv_records.specs.NumberFields.{is_number}
use Rattle.csv_records.specs.Records.{records_of}
use Rattle.csv_records.proofs.RowLaws.{differ_in_one, each_row, rows_once}
use Rattle.delay_laws.specs.PlannedTimetables.{greatest_departure, greatest_delayed_number, greatest_delay}
use Rattle.teg_due.specs.RowNames.{number_named}
use Rattle.teg_due.proofs.DueRules.{named_in}
use Rattle.teg_net.specs.Nets.{NetLists}
use Rattle.timetable_files.specs.declared.entries.TableEntry.{TableEntry}
use Rattle.timetable_files.specs.declared.entries.TableEntry.TheVariants.{Departure, Late}
use Rattle.timetable_files.specs.declared.refusals.TableRefusal.{TableRefusal}
use Rattle.timetable_files.specs.Entries.{delay_row, departure_row, entries_of, entry_row, has_entry, in_delay_limits, is_about, is_table_header, departure_number, row_named, transition_in_entry}
use Rattle.timetable_files.specs.EntryRules.{AreEntriesOf, IsEntryOf}

-- an entry that is accepted keeps its limits, and no earlier one is about the same
pub record IsNewEntry (net : NetLists) (entries : List TableEntry) (e : TableEntry) : Type 0 where
  pub rule : IsEntryOf net e
  pub fresh : has_entry entries (transition_in_entry e) (departure_number e) ≡ false

departure_new : (net : NetLists) (entries : List TableEntry) (k t first : ℕ) (e : TableEntry) → t < length net.transitions
    → departure_row (has_entry entries t 0) k t first ≡ Ok e → IsNewEntry net entries e
departure_new net entries k t first e lt h = elim (cases_Bool (has_entry entries t 0)) [
  | inl twice ↦ cc (rw twice at h)
  | inr fresh ↦ elim (cases_Bool (nat_le first greatest_departure)) [
    | inr out ↦ cc (rw (fresh, out) at h)
    | inl within ↦
        let same : Departure (record { index = t }) first ≡ e = cc (rw (fresh, within) at h) in
        subst (IsNewEntry net entries) same (record { rule = (lt, small first within); fresh = fresh })
  ]
]
  where
    small : (n : ℕ) → nat_le n greatest_departure ≡ true → n ≤ greatest_departure
    small n h = grind (arith, nat_tests)

delay_new : (net : NetLists) (entries : List TableEntry) (k t n by : ℕ) (e : TableEntry) → t < length net.transitions → delay_row (has_entry entries t n) k t n by ≡ Ok e → IsNewEntry net entries e
delay_new net entries k t n by e lt h = elim (cases_Bool (nat_le 1 n && has_entry entries t n)) [
  | inl twice ↦ cc (rw twice at h)
  | inr fresh ↦ elim (cases_Bool (in_delay_limits n by)) [
    | inr out ↦ cc (rw (fresh, out) at h)
    | inl within ↦
        let same : Late (record { row = k; transition = record { index = t }; number = n; by = by }) ≡ e = cc (rw (fresh, within) at h) in
        subst (IsNewEntry net entries) same (record {
          rule = record {
            transition_in = lt;
            number_some = number_some within;
            number_in = number_in within;
            by_some = by_some within;
            by_in = by_in within;
          };
          fresh = unseen (has_entry entries t n) (number_some within) fresh;
        })
  ]
]
  where
    number_some : in_delay_limits n by ≡ true → 1 ≤ n
    number_some h = grind (arith, nat_tests)

    number_in : in_delay_limits n by ≡ true → n ≤ greatest_delayed_number
    number_in h = grind (arith, nat_tests)

    by_some : in_delay_limits n by ≡ true → 1 ≤ by
    by_some h = grind (arith, nat_tests)

    by_in : in_delay_limits n by ≡ true → by ≤ greatest_delay
    by_in h = grind (arith, nat_tests)

    unseen : (b : Bool) → 1 ≤ n → (nat_le 1 n && b) ≡ false → b ≡ false
    unseen true some h = absurd (one some h)
      where
        one : 1 ≤ n → (nat_le 1 n && true) ≡ false → ⊥
        one some h = grind (arith, nat_tests)
    unseen false some h = refl

named_new : (net : NetLists) (entries : List TableEntry) (k : ℕ) (name : List ℕ) (o : Option ℕ) (row : ℕ → Result TableEntry TableRefusal) (e : TableEntry) → number_named net name ≡ o
    → ((t : ℕ) → t < length net.transitions → row t ≡ Ok e → IsNewEntry net entries e) → row_named k o row ≡ Ok e → IsNewEntry net entries e
named_new net entries k name None row e named new h = cc h
named_new net entries k name (Some t) row e named new h = new t (named_in net name t named) h

-- an entry that is accepted is new
pub accepted_new : (net : NetLists) (entries : List TableEntry) (k : ℕ) (fields : List (List ℕ)) (e : TableEntry) → entry_row net entries k fields ≡ Ok e → IsNewEntry net entries e
accepted_new net entries k [] e h = cc h
accepted_new net entries k (a ∷ []) e h = cc h
accepted_new net entries k (name ∷ first ∷ []) e h = elim (cases_Bool (is_number first)) [
  | inl digits ↦
      named_new net entries k name (number_named net name) (λ t. departure_row (has_entry entries t 0) k t (digits_value 10 first)) e refl
      (λ t. departure_new net entries k t (digits_value 10 first) e) (rw digits at h)
  | inr other ↦ cc (rw other at h)
]
accepted_new net entries k (name ∷ number ∷ by ∷ []) e h = elim (cases_Bool (is_number number && is_number by)) [
  | inl digits ↦
      named_new net entries k name (number_named net name) (λ t. delay_row (has_entry entries t (digits_value 10 number)) k t (digits_value 10 number) (digits_value 10 by)) e refl
      (λ t. delay_new net entries k t (digits_value 10 number) (digits_value 10 by) e) (rw digits at h)
  | inr other ↦ cc (rw other at h)
]
accepted_new net entries k (a ∷ b ∷ c ∷ d ∷ more) e h = cc h

-- two entries are about the same
abbrev is_same : TableEntry → TableEntry → Bool
is_same e d = is_about (transition_in_entry e) (departure_number e) d

-- the entries of a file keep the rules
pub entry_rules : (net : NetLists) (bytes : List ℕ) (entries : List TableEntry) → entries_of net bytes ≡ Ok entries → AreEntriesOf net entries
entry_rules net bytes entries e = record {
  each = each_row is_table_header (entry_row net) (IsEntryOf net) (λ before k fields r is. (accepted_new net before k fields r is).rule) (records_of bytes) entries e;
  once = λ i j d lt within.
      let a = get_or entries i d in
      let b = get_or entries j d in
      differ_in_one (transition_in_entry a) (transition_in_entry b) (departure_number a) (departure_number b) (apart i j d lt within);
}
  where
    apart : AllPairs (λ d r. is_same r d ≡ false) entries
    apart = rows_once is_table_header (entry_row net) is_same (λ before k fields r is. (accepted_new net before k fields r is).fresh) (records_of bytes) entries e
