-- The rows of a due file, or its first fault.
use Rattle.std.specs.Prelude.{ℕ, Bool, false, ◌==◌, ◌&&◌, List, [], ◌∷◌, Option, Some, None, Result, Ok, Err, nat_le, codes, if◌then◌else◌}
use Rattle.std.specs.List.{list_any}
use Rattle.std.specs.Str.{bytes_eq}
use Rattle.std.specs.Str.Parse.{digits_value}
use Rattle.csv_records.specs.NumberFields.{is_number}
use Rattle.csv_records.specs.Records.{records_of}
use Rattle.csv_records.specs.RowsOfRecords.{rows_of}
use Rattle.teg_net.specs.Limits.{greatest_input_date}
use Rattle.teg_net.specs.Nets.{NetLists}
use Rattle.teg_due.specs.declared.rows.DueRow.{DueRow}
use Rattle.teg_due.specs.declared.rows.DueRefusal.{DueRefusal}
use Rattle.teg_due.specs.declared.rows.DueRefusal.TheVariants.{BadRow, UnknownTransition, NotDue, RepeatedDue, OutOfRange}
use Rattle.teg_due.specs.RowNames.{number_named, is_input}

-- the greatest number of a firing that is due
abbrev pub greatest_due_number : ℕ
greatest_due_number = 10000

-- the fields of a header
abbrev pub is_due_header : List (List ℕ) → Bool
is_due_header (a ∷ b ∷ c ∷ []) = bytes_eq a (codes "transition") && (bytes_eq b (codes "number") && bytes_eq c (codes "date"))
is_due_header _ = false

-- one of these rows has this transition and number
abbrev pub has_due : List DueRow → ℕ → ℕ → Bool
has_due rows t n = list_any (λ r. (r.transition.index == t) && (r.number == n)) rows

-- a number of a firing that may be due, and a date within the limit
abbrev pub in_due_limits : ℕ → ℕ → Bool
in_due_limits n date = nat_le 1 n && (nat_le n greatest_due_number && nat_le date greatest_input_date)

-- row k of transition t, a number and a date, of a firing that an earlier row has or has not
abbrev pub due_numbered : Bool → ℕ → ℕ → ℕ → ℕ → Result DueRow DueRefusal
due_numbered is_repeated k t n date =
    if is_repeated then Err (RepeatedDue k)
    else (if in_due_limits n date then Ok (record { row = k; transition = record { index = t }; number = n; date = date })
    else Err (OutOfRange k))

-- row k of a transition that has or has not that name, a number and a date, after these rows
abbrev pub due_placed : NetLists → List DueRow → ℕ → Option ℕ → ℕ → ℕ → Result DueRow DueRefusal
due_placed net rows k None n date = Err (UnknownTransition k)
due_placed net rows k (Some t) n date = if is_input net t then Err (NotDue k) else due_numbered (has_due rows t n) k t n date

-- row k of these fields, after these rows, or the first of its faults
abbrev pub due_row : NetLists → List DueRow → ℕ → List (List ℕ) → Result DueRow DueRefusal
due_row net rows k (name ∷ number ∷ date ∷ []) =
    if is_number number && is_number date
    then due_placed net rows k (number_named net name) (digits_value 10 number) (digits_value 10 date)
    else Err (BadRow k)
due_row net rows k _ = Err (BadRow k)

-- the rows of a due file, or its first fault
abbrev pub due_of : NetLists → List ℕ → Result (List DueRow) DueRefusal
due_of net bytes = rows_of is_due_header (due_row net) (records_of bytes)
