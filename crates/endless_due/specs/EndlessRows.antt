-- Rows of due dates without end: what they give each firing, and the rules that they keep in a net.
use Rattle.std.specs.Prelude.{ℕ, ◌<◌, ◌≤◌, ◌≢◌, ◌==◌, List, Option, Some, None, length, find, All, AllPairs}
use Rattle.std.specs.List.Sorted.{IsNonDecreasing}
use Rattle.teg_net.specs.declared.entries.Again.{Again}
use Rattle.teg_net.specs.Limits.{greatest_input_date}
use Rattle.teg_net.specs.Nets.{NetLists, IsInput, ListGoesOn}
use Rattle.teg_net.specs.Inputs.{list_date}
use Rattle.endless_due.specs.declared.row.EndlessRow.{EndlessRow}

-- dates that a row lists, at most
abbrev pub most_endless_dates : ℕ
most_endless_dates = 10000

-- how the dates go on past the list
abbrev pub again_of_row : EndlessRow → Again
again_of_row r = record { every = r.every; gap = r.gap }

-- the date at which the row makes firing k due: the k-th that is listed, and past the list that of `every` firings before, plus the gap
abbrev pub row_due : EndlessRow → ℕ → Option ℕ
row_due r k = list_date r.dates (Some (again_of_row r)) k

-- the date at which the row makes firing k due; none where there is no row
abbrev pub due_by : Option EndlessRow → ℕ → Option ℕ
due_by None k = None
due_by (Some r) k = row_due r k

-- the row of a transition, if it has one
abbrev pub row_for : List EndlessRow → ℕ → Option EndlessRow
row_for rows t = find (λ r. r.transition.index == t) rows

-- the date at which firing k of transition t is due, where the transition has a row
abbrev pub due_on : List EndlessRow → ℕ → ℕ → Option ℕ
due_on rows t k = due_by (row_for rows t) k

-- a transition that is no input, and a list within its limits that never falls and goes on past its end
pub record IsEndlessRow (net : NetLists) (r : EndlessRow) : Type 0 where
  pub in_range : r.transition.index < length net.transitions
  pub no_input : IsInput net r.transition.index → ⊥
  pub few : length r.dates ≤ most_endless_dates
  pub dates_in : All (λ d. d ≤ greatest_input_date) r.dates
  pub never_falls : IsNonDecreasing r.dates
  pub goes_on : ListGoesOn r.dates (again_of_row r)

-- the rows of an endless due list: each such a row, and no transition twice
pub record IsEndlessOf (net : NetLists) (rows : List EndlessRow) : Type 0 where
  pub each : All (IsEndlessRow net) rows
  pub once : AllPairs (λ r s. r.transition.index ≢ s.transition.index) rows
