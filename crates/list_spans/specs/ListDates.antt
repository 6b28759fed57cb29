-- Working definitions of the dates that the input lists of a net give.
use Rattle.std.specs.Prelude.{ℕ, ◌==◌, slice_get}
use Rattle.std.specs.List.{position_or_len}
use Rattle.dioid.specs.declared.dates.Date.{Date}
use Rattle.teg_net.specs.Nets.{NetLists}
use Rattle.teg_net.specs.Inputs.{date_by_list}
use Rattle.settled_laws.specs.teg_model.Datings.{as_date}

-- the date that the net's list of this number gives firing k, and 0 where it has none
abbrev pub date_of_list : NetLists → ℕ → ℕ → Date
date_of_list net list k = as_date (date_by_list (slice_get net.inputs list) k)

-- the number of the list of transition t, or of no list
abbrev pub list_number : NetLists → ℕ → ℕ
list_number net t = position_or_len (λ l. l.transition.index == t) net.inputs
