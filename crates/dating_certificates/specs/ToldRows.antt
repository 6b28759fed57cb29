-- Rows of dates that are told for a net.
use Rattle.std.specs.Prelude.{ℕ, List, length}
use Rattle.dioid.specs.declared.dates.Date.{Date}
use Rattle.teg_net.specs.Nets.{NetLists}
use Rattle.dating_certificates.specs.CheckedRows.{date_up_to}

-- rows of dates that are told for a net, up to a number
pub record ToldDates : Type 0 where
  pub net : NetLists
  pub numbers : ℕ
  pub dates : List Date

-- these rows of the net
abbrev pub told_dates : NetLists → ℕ → List Date → ToldDates
told_dates net numbers dates = record { net = net; numbers = numbers; dates = dates }

-- the date of firing k of transition t
abbrev pub date_told : ToldDates → ℕ → ℕ → Date
date_told told t k = date_up_to told.numbers (length told.net.transitions) told.dates t k
