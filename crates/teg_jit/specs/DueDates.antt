-- The firings that the rows of a due list name.
use Rattle.std.specs.Prelude.{ℕ, ◌<◌, ◌≤◌, ◌≡◌, ◌≢◌, List, length, All, AllPairs, Any}
use Rattle.teg_net.specs.Nets.{NetLists}
use Rattle.teg_due.specs.declared.rows.DueRow.{DueRow}
use Rattle.teg_due.specs.RowRules.{AreApart}

-- the greatest number that a row names, 0 for no rows
pub record IsGreatestNumber (rows : List DueRow) (n : ℕ) : Type 0 where
  pub most : All (λ r. r.number ≤ n) rows
  pub named : n ≢ 0 → Any (λ r. r.number ≡ n) rows

-- the row names a firing of the net
pub record NamesFiring (net : NetLists) (r : DueRow) : Type 0 where
  pub in_range : r.transition.index < length net.transitions
  pub from_one : 1 ≤ r.number

-- each row names a firing of the net, and no two the same
pub record NameFirings (net : NetLists) (rows : List DueRow) : Type 0 where
  pub each : All (NamesFiring net) rows
  pub once : AllPairs AreApart rows
