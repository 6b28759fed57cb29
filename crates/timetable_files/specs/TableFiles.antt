-- Working definitions of what is kept while a timetable's file is read.
use Rattle.std.specs.Prelude.{◌≡◌, List, length}
use Rattle.csv_records.specs.Seen.{SeenNumbers, TellsSeen}
use Rattle.teg_net.specs.Nets.{NetLists}
use Rattle.timetable_files.specs.declared.entries.TableEntry.{TableEntry}
use Rattle.timetable_files.specs.Entries.{has_entry}

-- the names of the net, and for each of its transitions the numbers that these entries are about
pub record HasEntries (net names : NetLists) (seen : SeenNumbers) (entries : List TableEntry) : Type 0 where
  pub named : names ≡ net
  pub wide : seen.width ≡ length net.transitions
  pub told : TellsSeen seen (has_entry entries)
