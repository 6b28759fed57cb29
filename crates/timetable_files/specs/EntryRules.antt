-- Working definitions of the rules that the entries of a timetable's file keep.
use Rattle.std.specs.Prelude.{◌<◌, ◌≤◌, ◌≢◌, ◌⊎◌, List, length, All, AllPairs}
use Rattle.delay_laws.specs.PlannedTimetables.{IsDelayOf, greatest_departure}
use Rattle.teg_net.specs.Nets.{NetLists}
use Rattle.timetable_files.specs.declared.entries.TableEntry.{TableEntry}
use Rattle.timetable_files.specs.declared.entries.TableEntry.TheVariants.{Departure, Late}
use Rattle.timetable_files.specs.Entries.{transition_in_entry, departure_number}

-- a first departure of a transition of the net, or a delay of one, within its limits
abbrev pub IsEntryOf : NetLists → TableEntry → Type 0
IsEntryOf net (Departure transition first) = (transition.index < length net.transitions) × (first ≤ greatest_departure)
IsEntryOf net (Late delay) = IsDelayOf net delay

-- two entries that are about different transitions or different numbers
abbrev pub Differ : TableEntry → TableEntry → Type 0
Differ d e = (transition_in_entry d ≢ transition_in_entry e) ⊎ (departure_number d ≢ departure_number e)

-- entries of the net, no two of them about the same transition and number
pub record AreEntriesOf (net : NetLists) (entries : List TableEntry) : Type 0 where
  pub each : All (IsEntryOf net) entries
  pub once : AllPairs Differ entries
