-- The rules that the rows of a file keep in a net, and the due dates of a list.
use Rattle.std.specs.Prelude.{ℕ, ◌<◌, ◌≤◌, ◌⊎◌, ◌≢◌, ◌==◌, ◌&&◌, List, length, All, AllPairs, Option, find, option_map}
use Rattle.teg_net.specs.Limits.{greatest_input_date}
use Rattle.teg_net.specs.Nets.{NetLists, IsInput}
use Rattle.teg_due.specs.declared.rows.DueRow.{DueRow}
use Rattle.teg_due.specs.declared.rows.LogRow.{LogRow}
use Rattle.teg_due.specs.DueFileRows.{greatest_due_number}
use Rattle.teg_due.specs.Logs.{greatest_log_date}

-- a firing of a transition that is no input, with a number and a date within their limits
pub record IsDueRow (net : NetLists) (r : DueRow) : Type 0 where
  pub in_range : r.transition.index < length net.transitions
  pub no_input : IsInput net r.transition.index → ⊥
  pub from_one : 1 ≤ r.number
  pub number_in : r.number ≤ greatest_due_number
  pub date_in : r.date ≤ greatest_input_date

-- two rows name different firings
abbrev pub AreApart : DueRow → DueRow → Type 0
AreApart r s = (r.transition.index ≢ s.transition.index) ⊎ (r.number ≢ s.number)

-- the rows of a due list: each such a firing, and no firing twice
pub record IsDueOf (net : NetLists) (rows : List DueRow) : Type 0 where
  pub each : All (IsDueRow net) rows
  pub once : AllPairs AreApart rows

-- the date of the row that names firing k of transition t; none where no row does
abbrev pub due_in : List DueRow → ℕ → ℕ → Option ℕ
due_in rows t k = option_map (λ r. r.date) (find (λ r. (r.transition.index == t) && (r.number == k)) rows)

-- a firing of the net with a date within its limit
pub record IsLogRow (net : NetLists) (r : LogRow) : Type 0 where
  pub in_range : r.transition.index < length net.transitions
  pub date_in : r.date ≤ greatest_log_date

-- the rows of a log
abbrev pub IsLogOf : NetLists → List LogRow → Type 0
IsLogOf net rows = All (IsLogRow net) rows
