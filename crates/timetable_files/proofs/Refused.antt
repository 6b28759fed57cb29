-- What a refusal of a file names is of the net.
use Rattle.std.proofs.Common.{ℕ, zero, suc, ◌<◌, ◌≤◌, ◌&&◌, ◌≡◌, ◌≢◌, List, [], ◌∷◌, ◌++◌, Bool, true, false, cond, length, Option, Some, None, Result, Ok, Err, refl, subst, arith}
use Rattle.std.specs.Prelude.{nat_le}
use Rattle.std.specs.Str.Parse.{digits_value}
use Rattle.csv_records.specs.NumberFields.{is_number}
use Rattle.csv_records.specs.Records.{records_of}
use Rattle.csv_records.specs.RowsOfRecords.{and_then, with_read_row}
use Rattle.csv_records.proofs.RowLaws.{rows_refused}
use Rattle.delay_laws.specs.PlannedTimetables.{greatest_departure}
use Rattle.teg_due.specs.RowNames.{number_named}
use Rattle.teg_net.specs.Nets.{NetLists}
use Rattle.timetable_files.specs.declared.entries.TableEntry.{TableEntry}
use Rattle.timetable_files.specs.declared.entries.TableEntry.TheVariants.{Departure, Late}
use Rattle.timetable_files.specs.declared.refusals.TableRefusal.{TableRefusal}
use Rattle.timetable_files.specs.declared.refusals.TableRefusal.TheVariants as fault
use Rattle.timetable_files.specs.Entries.{delay_row, departure_row, entries_of, entry_row, has_entry, in_delay_limits, is_table_header, row_named}
use Rattle.timetable_files.specs.TimetableFiles.{IsTableRefusalIn, departure_of, departure_or_missing, firsts_of}

module _ (net : NetLists) where
  -- a result whose refusal names what is of the net
  abbrev IsFine : {T : Type 0} → Result T TableRefusal → Type 0
  IsFine {T = T} r = (why : TableRefusal) → r ≡ Err why → IsTableRefusalIn net why

  -- refusals of rows name no transition
  fine_err : {T : Type 0} (why : TableRefusal) → IsTableRefusalIn net why → IsFine {T = T} (Err why)
  fine_err {T = T} why h other e = let same : why ≡ other = cc e in subst (IsTableRefusalIn net) same h

  fine_ok : {T : Type 0} (x : T) → IsFine (Ok x)
  fine_ok x why e = cc e

  fine_departure : (is_given : Bool) (k t first : ℕ) → IsFine (departure_row is_given k t first)
  fine_departure is_given k t first = by is_given (nat_le first greatest_departure)
    where
      by : (a b : Bool) → IsFine (cond a (Err (fault.Repeated k)) (cond b (Ok (Departure (record { index = t }) first)) (Err (fault.OutOfRange k))))
      by true b = fine_err {T = TableEntry} (fault.Repeated k) tt
      by false true = fine_ok (Departure (record { index = t }) first)
      by false false = fine_err {T = TableEntry} (fault.OutOfRange k) tt

  fine_delay : (is_given : Bool) (k t n by : ℕ) → IsFine (delay_row is_given k t n by)
  fine_delay is_given k t n by = choose (nat_le 1 n && is_given) (in_delay_limits n by)
    where
      choose : (a b : Bool) → IsFine (cond a (Err (fault.Repeated k)) (cond b (Ok (Late (record { row = k; transition = record { index = t }; number = n; by = by }))) (Err (fault.OutOfRange k))))
      choose true b = fine_err {T = TableEntry} (fault.Repeated k) tt
      choose false true = fine_ok (Late (record { row = k; transition = record { index = t }; number = n; by = by }))
      choose false false = fine_err {T = TableEntry} (fault.OutOfRange k) tt

  fine_named : (k : ℕ) (o : Option ℕ) (row : ℕ → Result TableEntry TableRefusal) → ((t : ℕ) → IsFine (row t)) → IsFine (row_named k o row)
  fine_named k None row h = fine_err {T = TableEntry} (fault.UnknownTransition k) tt
  fine_named k (Some t) row h = h t

  fine_tested : (b : Bool) (k : ℕ) (row : Result TableEntry TableRefusal) → IsFine row → IsFine (cond b row (Err (fault.BadRow k)))
  fine_tested true k row h = h
  fine_tested false k row h = fine_err {T = TableEntry} (fault.BadRow k) tt

  fine_row : (entries : List TableEntry) (k : ℕ) (fields : List (List ℕ)) → IsFine (entry_row net entries k fields)
  fine_row entries k [] = fine_err {T = TableEntry} (fault.BadRow k) tt
  fine_row entries k (a ∷ []) = fine_err {T = TableEntry} (fault.BadRow k) tt
  fine_row entries k (name ∷ first ∷ []) =
      fine_tested (is_number first) k (row_named k (number_named net name) (λ t. departure_row (has_entry entries t 0) k t (digits_value 10 first)))
      (fine_named k (number_named net name) (λ t. departure_row (has_entry entries t 0) k t (digits_value 10 first)) (λ t. fine_departure (has_entry entries t 0) k t (digits_value 10 first)))
  fine_row entries k (name ∷ number ∷ by ∷ []) =
      fine_tested (is_number number && is_number by) k
      (row_named k (number_named net name) (λ t. delay_row (has_entry entries t (digits_value 10 number)) k t (digits_value 10 number) (digits_value 10 by)))
      (fine_named k (number_named net name) (λ t. delay_row (has_entry entries t (digits_value 10 number)) k t (digits_value 10 number)
      (digits_value 10 by)) (λ t. fine_delay (has_entry entries t (digits_value 10 number)) k t (digits_value 10 number) (digits_value 10 by)))
  fine_row entries k (a ∷ b ∷ c ∷ d ∷ more) = fine_err {T = TableEntry} (fault.BadRow k) tt

  fine_with : {R : Type 0} (rows : List R) (r : Result R TableRefusal) → IsFine r → IsFine (with_read_row rows r)
  fine_with {R = R} rows (Ok row) h = fine_ok (rows ++ row ∷ [])
  fine_with {R = R} rows (Err other) h = fine_err {T = List R} other (h other refl)

  fine_then : {R : Type 0} (r : Result (List R) TableRefusal) (next : List R → Result (List R) TableRefusal) → IsFine r → ((rows : List R) → IsFine (next rows)) → IsFine (and_then r next)
  fine_then {R = R} (Ok rows) next h f = f rows
  fine_then {R = R} (Err other) next h f = fine_err {T = List R} other (h other refl)

  -- why entries are refused
  pub entries_fine : (bytes : List ℕ) (why : TableRefusal) → entries_of net bytes ≡ Err why → IsTableRefusalIn net why
  entries_fine bytes = rows_refused is_table_header (entry_row net) (IsTableRefusalIn net) fine_row (records_of bytes)

  fine_missing : (o : Option ℕ) (t : ℕ) → t < length net.transitions → IsFine (departure_or_missing o t)
  fine_missing None t lt = fine_err {T = ℕ} (fault.Missing (record { index = t })) lt
  fine_missing (Some first) t lt = fine_ok first

  -- why there are no first departures
  pub firsts_fine : (entries : List TableEntry) (count : ℕ) → count ≤ length net.transitions → (why : TableRefusal) → firsts_of entries count ≡ Err why → IsTableRefusalIn net why
  firsts_fine entries zero h = fine_ok []
  firsts_fine entries (suc t) h =
      let before : t ≤ length net.transitions = omega arith in
      let below : t < length net.transitions = omega arith in
      fine_then (firsts_of entries t) (λ firsts. with_read_row firsts (departure_or_missing (departure_of entries t) t))
      (firsts_fine entries t before) (λ firsts. fine_with firsts (departure_or_missing (departure_of entries t) t) (fine_missing (departure_of entries t) t below))

  -- a refusal whose cause is known but where no memory was found is fine
  pub but_for_memory : {T : Type 0} (r : Result T TableRefusal) → ((why : TableRefusal) → r ≡ Err why → IsTableRefusalIn net why)
      → (why : TableRefusal) → (why ≢ fault.OutOfMemory → r ≡ Err why) → IsTableRefusalIn net why
  but_for_memory r h (fault.BadRow k) e = tt
  but_for_memory r h (fault.UnknownTransition k) e = tt
  but_for_memory r h (fault.Repeated k) e = tt
  but_for_memory r h (fault.OutOfRange k) e = tt
  but_for_memory r h (fault.Missing t) e = h (fault.Missing t) (e (λ same. cc same))
  but_for_memory r h fault.OutOfMemory e = tt
