-- Working definitions of what is kept while a due file is read.
use Rattle.std.specs.Prelude.{◌≡◌, List, length}
use Rattle.csv_records.specs.Seen.{SeenNumbers, TellsSeen}
use Rattle.teg_net.specs.Nets.{NetLists}
use Rattle.teg_due.specs.declared.rows.DueRow.{DueRow}
use Rattle.teg_due.specs.DueFileRows.{has_due}

-- the names of the net, and for each of its transitions the numbers that these rows have of it
pub record HasDues (net names : NetLists) (seen : SeenNumbers) (rows : List DueRow) : Type 0 where
  pub named : names ≡ net
  pub wide : seen.width ≡ length net.transitions
  pub told : TellsSeen seen (has_due rows)
