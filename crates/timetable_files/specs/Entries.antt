-- The rows of a timetable's file: first departures and delays, or the first fault.
use Rattle.std.specs.Prelude.{ℕ, Bool, false, ◌==◌, ◌&&◌, List, [], ◌∷◌, Option, Some, None, Result, Ok, Err, nat_le, codes, if◌then◌else◌}
use Rattle.std.specs.List.{list_any}
use Rattle.std.specs.Str.{bytes_eq}
use Rattle.std.specs.Str.Parse.{digits_value}
use Rattle.csv_records.specs.NumberFields.{is_number}
use Rattle.csv_records.specs.Records.{records_of}
use Rattle.csv_records.specs.RowsOfRecords.{rows_of}
use Rattle.delay_laws.specs.PlannedTimetables.{greatest_departure, greatest_delayed_number, greatest_delay}
use Rattle.teg_due.specs.RowNames.{number_named}
use Rattle.teg_net.specs.Nets.{NetLists}
use Rattle.timetable_files.specs.declared.entries.TableEntry.{TableEntry}
use Rattle.timetable_files.specs.declared.entries.TableEntry.TheVariants.{Departure, Late}
use Rattle.timetable_files.specs.declared.refusals.TableRefusal.{TableRefusal}
use Rattle.timetable_files.specs.declared.refusals.TableRefusal.TheVariants.{BadRow, UnknownTransition, Repeated, OutOfRange}

-- the fields of a header
abbrev pub is_table_header : List (List ℕ) → Bool
is_table_header (a ∷ b ∷ []) = bytes_eq a (codes "transition") && bytes_eq b (codes "first")
is_table_header _ = false

-- the transition of an entry
abbrev pub transition_in_entry : TableEntry → ℕ
transition_in_entry (Departure transition first) = transition.index
transition_in_entry (Late delay) = delay.transition.index

-- the number of the departure that an entry delays, and 0 where it gives a first departure
abbrev pub departure_number : TableEntry → ℕ
departure_number (Departure transition first) = 0
departure_number (Late delay) = delay.number

-- the entry gives the first departure of this transition, at number 0, or delays its departure of this number
abbrev pub is_about : ℕ → ℕ → TableEntry → Bool
is_about t n e = (transition_in_entry e == t) && (departure_number e == n)

-- one of the entries gives the first departure of this transition, at number 0, or delays its departure of this number
abbrev pub has_entry : List TableEntry → ℕ → ℕ → Bool
has_entry entries t n = list_any (is_about t n) entries

-- row k, a first departure of transition t at this date, which an earlier entry gives or not
abbrev pub departure_row : Bool → ℕ → ℕ → ℕ → Result TableEntry TableRefusal
departure_row is_given k t first =
    if is_given then Err (Repeated k)
    else (if nat_le first greatest_departure then Ok (Departure (record { index = t }) first)
    else Err (OutOfRange k))

-- a number of a departure that may be delayed, and a delay within its limits
abbrev pub in_delay_limits : ℕ → ℕ → Bool
in_delay_limits n by = (nat_le 1 n && nat_le n greatest_delayed_number) && (nat_le 1 by && nat_le by greatest_delay)

-- row k, a delay of departure n of transition t, of which an earlier entry is or not; none delays a departure of number 0
abbrev pub delay_row : Bool → ℕ → ℕ → ℕ → ℕ → Result TableEntry TableRefusal
delay_row is_given k t n by =
    if nat_le 1 n && is_given then Err (Repeated k)
    else (if in_delay_limits n by then Ok (Late (record { row = k; transition = record { index = t }; number = n; by = by }))
    else Err (OutOfRange k))

-- row k of a transition that has or has not the name that it gives
abbrev pub row_named : ℕ → Option ℕ → (ℕ → Result TableEntry TableRefusal) → Result TableEntry TableRefusal
row_named k None row = Err (UnknownTransition k)
row_named k (Some t) row = row t

-- row k of these fields, after these entries, or the first of its faults
abbrev pub entry_row : NetLists → List TableEntry → ℕ → List (List ℕ) → Result TableEntry TableRefusal
entry_row net entries k (name ∷ first ∷ []) =
    if is_number first then row_named k (number_named net name) (λ t. departure_row (has_entry entries t 0) k t (digits_value 10 first)) else Err (BadRow k)
entry_row net entries k (name ∷ number ∷ by ∷ []) =
    if is_number number && is_number by
    then row_named k (number_named net name) (λ t. delay_row (has_entry entries t (digits_value 10 number)) k t (digits_value 10 number) (digits_value 10 by))
    else Err (BadRow k)
entry_row net entries k _ = Err (BadRow k)

-- the entries of a file, or its first fault
abbrev pub entries_of : NetLists → List ℕ → Result (List TableEntry) TableRefusal
entries_of net bytes = rows_of is_table_header (entry_row net) (records_of bytes)
