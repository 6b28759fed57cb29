-- The timetable that a file says: a first departure of each transition, and delays.
use Rattle.std.specs.Prelude.{ℕ, zero, suc, ◌==◌, ◌<◌, List, [], ◌∷◌, length, Option, Some, None, Result, Ok, Err, if◌then◌else◌, ⊤}
use Rattle.csv_records.specs.RowsOfRecords.{and_then, with_read_row}
use Rattle.delay_laws.specs.declared.table.Delay.{Delay}
use Rattle.delay_laws.specs.declared.table.Timetable.{Timetable}
use Rattle.teg_net.specs.Nets.{NetLists}
use Rattle.timetable_files.specs.declared.entries.TableEntry.{TableEntry}
use Rattle.timetable_files.specs.declared.entries.TableEntry.TheVariants.{Departure, Late}
use Rattle.timetable_files.specs.declared.refusals.TableRefusal.{TableRefusal}
use Rattle.timetable_files.specs.declared.refusals.TableRefusal.TheVariants.{BadRow, UnknownTransition, Repeated, OutOfRange, Missing, OutOfMemory}
use Rattle.timetable_files.specs.Entries.{entries_of}

-- the first departures of a timetable by transition, and its delays
pub record TableLists : Type 0 where
  pub firsts : List ℕ
  pub delays : List Delay

-- the lists of a timetable
abbrev pub lists_of_table : Timetable → TableLists
lists_of_table t = record { firsts = t.firsts.items; delays = t.delays.items }

-- the first departure that the entries give transition t
abbrev pub departure_of : List TableEntry → ℕ → Option ℕ
departure_of [] t = None
departure_of (Departure transition first ∷ entries) t = if transition.index == t then Some first else departure_of entries t
departure_of (Late delay ∷ entries) t = departure_of entries t

-- the delays among the entries, in order
abbrev pub delays_of : List TableEntry → List Delay
delays_of [] = []
delays_of (Departure transition first ∷ entries) = delays_of entries
delays_of (Late delay ∷ entries) = delay ∷ delays_of entries

-- the first departure of transition t, which may be missing
abbrev pub departure_or_missing : Option ℕ → ℕ → Result ℕ TableRefusal
departure_or_missing None t = Err (Missing (record { index = t }))
departure_or_missing (Some first) t = Ok first

-- the first departures of the first `count` transitions, or the lowest of them that has none
abbrev pub firsts_of : List TableEntry → ℕ → Result (List ℕ) TableRefusal
firsts_of entries zero = Ok []
firsts_of entries (suc t) = and_then (firsts_of entries t) (λ firsts. with_read_row firsts (departure_or_missing (departure_of entries t) t))

-- the timetable of these entries in a net of `count` transitions
abbrev pub table_with : Result (List ℕ) TableRefusal → List Delay → Result TableLists TableRefusal
table_with (Ok firsts) delays = Ok (record { firsts = firsts; delays = delays })
table_with (Err why) delays = Err why

-- the timetable of the entries in a net of `count` transitions, or why the file is refused
abbrev pub timetable_or_refusal : Result (List TableEntry) TableRefusal → ℕ → Result TableLists TableRefusal
timetable_or_refusal (Ok entries) count = table_with (firsts_of entries count) (delays_of entries)
timetable_or_refusal (Err why) count = Err why

-- the timetable that the bytes say of the net; or the first faulty row with its first fault; or, where no row is faulty, the lowest
-- numbered transition without a first departure
abbrev pub timetable_of : NetLists → List ℕ → Result TableLists TableRefusal
timetable_of net bytes = timetable_or_refusal (entries_of net bytes) (length net.transitions)

-- a transition that is named is one of the net
abbrev pub IsTableRefusalIn : NetLists → TableRefusal → Type 0
IsTableRefusalIn net (BadRow row) = ⊤
IsTableRefusalIn net (UnknownTransition row) = ⊤
IsTableRefusalIn net (Repeated row) = ⊤
IsTableRefusalIn net (OutOfRange row) = ⊤
IsTableRefusalIn net (Missing transition) = transition.index < length net.transitions
IsTableRefusalIn net OutOfMemory = ⊤
