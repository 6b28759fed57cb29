-- The rows of a file: one for each record, in order, or the first refusal.
use Rattle.std.specs.Prelude.{ℕ, Bool, ◌+◌, ◌==◌, ◌&&◌, ◌++◌, ◌∷◌, [], List, Result, Ok, Err, if◌then◌else◌}

module _ {R E : Type 0} where
  -- the rows that were read with one more behind them, or why that one is refused
  abbrev pub with_read_row : List R → Result R E → Result (List R) E
  with_read_row rows (Ok row) = Ok (rows ++ row ∷ [])
  with_read_row rows (Err why) = Err why

  -- what comes after these rows, or why there are none
  abbrev pub and_then : Result (List R) E → (List R → Result (List R) E) → Result (List R) E
  and_then (Ok rows) next = next rows
  and_then (Err why) next = Err why

  module _ (is_header : List (List ℕ) → Bool) (row_of : List R → ℕ → List (List ℕ) → Result R E) where
    -- the rows after record k of the file, which is passed over where it is the first and a header
    abbrev pub with_record : List R → ℕ → List (List ℕ) → Result (List R) E
    with_record rows k fields = if (k == 1) && is_header fields then Ok rows else with_read_row rows (row_of rows k fields)

    -- the rows after the records k and on
    abbrev pub rows_from : List R → ℕ → List (List (List ℕ)) → Result (List R) E
    rows_from rows k [] = Ok rows
    rows_from rows k (fields ∷ rest) = and_then (with_record rows k fields) (λ more. rows_from more (k + 1) rest)

    -- the rows of a file by its records, counted from 1, a header included; the first row that is refused answers
    abbrev pub rows_of : List (List (List ℕ)) → Result (List R) E
    rows_of records = rows_from [] 1 records
