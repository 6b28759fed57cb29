-- The due rows of firings that are still to come.
use Rattle.std.specs.Prelude.{◌-◌, nat_lt, Bool, if◌then◌else◌, List, Option, Some, None, map, filter}
use Rattle.teg_due.specs.declared.rows.DueRow.{DueRow}
use Rattle.run_laws.specs.declared.fired.Fired.{Fired}
use Rattle.state_laws.specs.NetsLeft.{count_in}

-- the firing of the row is still to come
abbrev pub is_left : List Fired → DueRow → Bool
is_left run r = nat_lt (count_in run r.transition.index) r.number

-- the row with its number from now on
abbrev pub from_now_on : List Fired → DueRow → DueRow
from_now_on run r = record r { number = r.number - count_in run r.transition.index }

-- the rows of the firings to come, with their numbers from now on
abbrev pub rows_left : List Fired → List DueRow → List DueRow
rows_left run rows = map (from_now_on run) (filter (is_left run) rows)

-- the row with its number from now on; none where its firing came
abbrev pub row_left : List Fired → DueRow → Option DueRow
row_left run r = if is_left run r then Some (from_now_on run r) else None
