-- The rows of a log, or its first fault.
use Rattle.std.specs.Prelude.{ℕ, Bool, false, ◌&&◌, List, [], ◌∷◌, Option, Some, None, Result, Ok, Err, nat_le, codes, if◌then◌else◌}
use Rattle.std.specs.Str.{bytes_eq}
use Rattle.std.specs.Str.Parse.{digits_value}
use Rattle.csv_records.specs.NumberFields.{is_number}
use Rattle.csv_records.specs.Records.{records_of}
use Rattle.csv_records.specs.RowsOfRecords.{rows_of}
use Rattle.teg_net.specs.Nets.{NetLists}
use Rattle.teg_due.specs.declared.rows.LogRow.{LogRow}
use Rattle.teg_due.specs.declared.rows.LogRefusal.{LogRefusal}
use Rattle.teg_due.specs.declared.rows.LogRefusal.TheVariants.{BadRow, UnknownTransition, OutOfRange}
use Rattle.teg_due.specs.RowNames.{number_named}

-- the greatest date of a recorded firing
abbrev pub greatest_log_date : ℕ
greatest_log_date = 1000000000000000000

-- the fields of a header
abbrev pub is_log_header : List (List ℕ) → Bool
is_log_header (a ∷ b ∷ []) = bytes_eq a (codes "transition") && bytes_eq b (codes "date")
is_log_header _ = false

-- row k of a transition and a date
abbrev pub log_placed : ℕ → Option ℕ → ℕ → Result LogRow LogRefusal
log_placed k None date = Err (UnknownTransition k)
log_placed k (Some t) date =
    if nat_le date greatest_log_date then Ok (record { row = k; transition = record { index = t }; date = date })
    else Err (OutOfRange k)

-- row k of these fields, or the first of its faults
abbrev pub log_row : NetLists → List LogRow → ℕ → List (List ℕ) → Result LogRow LogRefusal
log_row net rows k (name ∷ date ∷ []) =
    if is_number date then log_placed k (number_named net name) (digits_value 10 date) else Err (BadRow k)
log_row net rows k _ = Err (BadRow k)

-- the rows of a log, or its first fault
abbrev pub log_of : NetLists → List ℕ → Result (List LogRow) LogRefusal
log_of net bytes = rows_of is_log_header (log_row net) (records_of bytes)
