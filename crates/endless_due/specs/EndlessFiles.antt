-- The rows of a file of due dates without end, or its first fault.
use Rattle.std.specs.Prelude.{ℕ, Bool, true, false, ◌+◌, ◌-◌, ◌==◌, ◌&&◌, List, [], ◌∷◌, Option, Some, None, Result, Ok, Err, ◌≡◌, length, map, drop, get_or, nat_le, slice_index, codes, if◌then◌else◌}
use Rattle.std.specs.List.{list_all, list_any}
use Rattle.std.specs.Str.{bytes_eq}
use Rattle.std.specs.Str.Parse.{digits_value}
use Rattle.csv_records.specs.NumberFields.{is_number}
use Rattle.csv_records.specs.Records.{records_of}
use Rattle.csv_records.specs.RowsOfRecords.{rows_of}
use Rattle.teg_net.specs.Limits.{greatest_input_date, greatest_every}
use Rattle.teg_net.specs.Nets.{NetLists}
use Rattle.teg_due.specs.RowNames.{number_named, is_input}
use Rattle.endless_due.specs.declared.row.EndlessRow.{EndlessRow}
use Rattle.endless_due.specs.EndlessRows.{most_endless_dates}
use Rattle.endless_due.specs.declared.numbers.Limited.{Limited}
use Rattle.endless_due.specs.declared.refusal.EndlessRefusal.{EndlessRefusal}
use Rattle.endless_due.specs.declared.refusal.EndlessRefusal.TheVariants.{BadRow, UnknownTransition, NotDue, RepeatedDue, OutOfRange, Falls}

-- the fields of a header
abbrev pub is_endless_header : List (List ℕ) → Bool
is_endless_header (a ∷ b ∷ c ∷ d ∷ []) = bytes_eq a (codes "transition") && (bytes_eq b (codes "every") && (bytes_eq c (codes "gap") && bytes_eq d (codes "dates")))
is_endless_header _ = false

-- one of these rows has this transition
abbrev pub has_row : List EndlessRow → ℕ → Bool
has_row rows t = list_any (λ r. r.transition.index == t) rows

-- `every` from 1, it, the gap, the number of dates and each date within their limits
abbrev pub in_endless_limits : ℕ → ℕ → List ℕ → Bool
in_endless_limits every gap dates =
    nat_le 1 every && (nat_le every greatest_every && (nat_le gap greatest_input_date && (nat_le (length dates) most_endless_dates && list_all (λ d. nat_le d greatest_input_date) dates)))

-- none of the dates is less than the one before it, nor the first than this one
abbrev pub rises_from : ℕ → List ℕ → Bool
rises_from before [] = true
rises_from before (date ∷ dates) = nat_le before date && rises_from date dates

-- the dates never fall, there are as many as `every`, and the first date past the list is no less than the last one listed
abbrev pub goes_on : ℕ → ℕ → List ℕ → Bool
goes_on every gap dates =
    rises_from 0 dates && (nat_le every (length dates) && nat_le (slice_index dates (length dates - 1)) (slice_index dates (length dates - every) + gap))

-- row k of transition t, a number of firings, a gap and dates, after these rows
abbrev pub endless_numbered : List EndlessRow → ℕ → ℕ → ℕ → ℕ → List ℕ → Result EndlessRow EndlessRefusal
endless_numbered rows k t every gap dates =
    if has_row rows t then Err (RepeatedDue k)
    else if in_endless_limits every gap dates then
    (if goes_on every gap dates then Ok (record { row = k; transition = record { index = t }; every = every; gap = gap; dates = dates })
    else Err (Falls k))
    else Err (OutOfRange k)

-- row k of a transition that has or has not that name
abbrev pub endless_placed : NetLists → List EndlessRow → ℕ → Option ℕ → ℕ → ℕ → List ℕ → Result EndlessRow EndlessRefusal
endless_placed net rows k None every gap dates = Err (UnknownTransition k)
endless_placed net rows k (Some t) every gap dates = if is_input net t then Err (NotDue k) else endless_numbered rows k t every gap dates

-- row k of these fields, after these rows, or the first of its faults
abbrev pub endless_row : NetLists → List EndlessRow → ℕ → List (List ℕ) → Result EndlessRow EndlessRefusal
endless_row net rows k (name ∷ every ∷ gap ∷ date ∷ dates) =
    if list_all is_number (every ∷ gap ∷ date ∷ dates)
    then endless_placed net rows k (number_named net name) (digits_value 10 every) (digits_value 10 gap) (map (digits_value 10) (date ∷ dates))
    else Err (BadRow k)
endless_row net rows k _ = Err (BadRow k)

-- the rows of a file of due dates without end, or its first fault
abbrev pub endless_of : NetLists → List ℕ → Result (List EndlessRow) EndlessRefusal
endless_of net bytes = rows_of is_endless_header (endless_row net) (records_of bytes)

-- ---- the parts of a record

-- the fields from the second on are numbers, of which there are three at least
abbrev pub has_numbers : List (List ℕ) → Bool
has_numbers fields = nat_le 4 (length fields) && list_all is_number (drop 1 fields)

-- every how many firings the dates go on: the second field
abbrev pub every_in : List (List ℕ) → ℕ
every_in fields = digits_value 10 (get_or fields 1 [])

-- by how much they then go on: the third field
abbrev pub gap_in : List (List ℕ) → ℕ
gap_in fields = digits_value 10 (get_or fields 2 [])

-- the first dates: the fields from the fourth on
abbrev pub dates_of_fields : List (List ℕ) → List ℕ
dates_of_fields fields = map (digits_value 10) (drop 3 fields)

-- what the numbers of a record give where they keep their limits
abbrev pub IsLimited : List (List ℕ) → Option Limited → Type 0
IsLimited fields None = in_endless_limits (every_in fields) (gap_in fields) (dates_of_fields fields) ≡ false
IsLimited fields (Some n) =
    (in_endless_limits (every_in fields) (gap_in fields) (dates_of_fields fields) ≡ true)
    × (n.every ≡ every_in fields) × (n.gap ≡ gap_in fields) × (n.dates.items ≡ dates_of_fields fields)

-- the dates of a record, where each keeps its limit
abbrev pub AreDatesOfFields : List (List ℕ) → Option (List ℕ) → Type 0
AreDatesOfFields fields None = list_all (λ d. nat_le d greatest_input_date) (dates_of_fields fields) ≡ false
AreDatesOfFields fields (Some dates) = (dates ≡ dates_of_fields fields) × (list_all (λ d. nat_le d greatest_input_date) (dates_of_fields fields) ≡ true)
