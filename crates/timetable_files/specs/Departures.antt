-- Working definitions of the first departures that the entries of a file give.
use Rattle.std.specs.Prelude.{ℕ, ◌<◌, ◌≡◌, List, Option, Some, None, length, slice_index_or}
use Rattle.timetable_files.specs.declared.entries.TableEntry.{TableEntry}
use Rattle.timetable_files.specs.TimetableFiles.{departure_of}

-- the first of two
abbrev pub or_second : Option ℕ → Option ℕ → Option ℕ
or_second None b = b
or_second (Some a) b = Some a

-- the first departures that the entries give the first `width` transitions
pub record AreDepartures (width : ℕ) (entries : List TableEntry) (cells : List (Option ℕ)) : Type 0 where
  pub long : length cells ≡ width
  pub each : (t : ℕ) → t < width → slice_index_or cells t None ≡ departure_of entries t
