-- The records of a text whose fields are separated by commas, and those that a reader has left.
use Rattle.std.specs.Prelude.{ℕ, true, false, ◌+◌, ◌≡◌, List, [], Option, Some, None, length}
use Rattle.csv.specs.Machine.{ends_at_end}
use Rattle.csv.specs.Reading.{Ready, default_config, has_failed, is_flexible, reader_config, reader_state, reader_trim, records, records_from, source_of, strip_bom}
use Rattle.csv.specs.declared.reader.Reader.{Reader}
use Rattle.csv.specs.declared.reader.Trim.TheVariants as trim
use Rattle.csv.specs.declared.parser.State.{State}

-- a record: its fields, each a list of bytes
abbrev pub Record : Type 0
Record = List (List ℕ)

-- the records of a text in order, as the `csv` crate reads commas, quotes and line ends; one byte order mark at the start is passed over
abbrev pub records_of : List ℕ → List (List (List ℕ))
records_of bytes = records default_config (strip_bom bytes)

-- the bytes of a file of rows
abbrev pub most_file_bytes : ℕ
most_file_bytes = 4194304

-- no record is begun in this state
abbrev pub IsBetween : State → Type 0
IsBetween s = ends_at_end s ≡ false

-- the records of the bytes that are left, from this state on
abbrev pub records_left : State → List ℕ → List (List (List ℕ))
records_left s xs = records_from default_config (length xs + 1) s xs

-- the records of the bytes that are left, from this state on; none where the bytes are not told
abbrev pub records_left_of : State → Option (List ℕ) → List (List (List ℕ))
records_left_of s None = []
records_left_of s (Some xs) = records_left s xs

-- a reader of plain records of any length, between two of them, whose bytes are told
pub record IsReading {R : Type 0} (rest : R → Option (List ℕ)) (r : Reader R) : Type 0 where
  pub going : has_failed r ≡ false
  pub plain : reader_trim r ≡ trim.None
  pub ready : Ready r
  pub any_length : is_flexible r ≡ true
  pub config : reader_config r ≡ default_config
  pub between : IsBetween (reader_state r)
  pub told : (xs : List ℕ) × (source_of rest r ≡ Some xs)
