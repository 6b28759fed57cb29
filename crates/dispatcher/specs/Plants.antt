-- A plant with what happened in it, and which firings are not taken down.
use Rattle.std.specs.Prelude.{ℕ, ◌<◌, ◌≤◌, ◌≡◌, ◌^◌, ◌⊎◌, List, All, Ok, length, map, ⊤}
use Rattle.run_laws.specs.declared.fired.Fired.{Fired}
use Rattle.teg_due.specs.Logs.{log_of}
use Rattle.teg_due.specs.declared.rows.LogRow.{LogRow}
use Rattle.teg_net.specs.Nets.{NetLists}
use Rattle.teg_state.specs.Histories.{Past}
use Rattle.dispatcher.specs.declared.plant.NotTaken.{NotTaken}
use Rattle.dispatcher.specs.declared.plant.NotTaken.TheVariants.{NoTransition, Limit, OutOfMemory}

-- a net and the firings that happened in it
pub record PlantState : Type 0 where
  pub net : NetLists
  pub run : List Fired

-- what happened is kept for the net, and keeps its limits
pub record IsPlantOf (net : NetLists) (past : Past) : Type 0 where
  pub width : past.width ≡ length net.transitions
  pub dates : All (λ f. f.date ≤ 10 ^ 18) past.run
  pub few : length past.run ≤ 2 ^ 40

-- the firing of a row of a log
abbrev pub fired_of : LogRow → Fired
fired_of row = record { transition = row.transition; date = row.date }

-- the log says rows, and these are their firings, in their order
pub record AreFiringsOf (net : NetLists) (log : List ℕ) (run : List Fired) : Type 0 where
  pub rows : List LogRow
  pub said : log_of net log ≡ Ok rows
  pub firings : run ≡ map fired_of rows

-- why a firing is not taken down: the net has no such transition, or a limit is reached; want of memory says nothing
abbrev pub IsWhyNotTaken : PlantState → Fired → NotTaken → Type 0
IsWhyNotTaken plant f NoTransition = length plant.net.transitions ≤ f.transition.index
IsWhyNotTaken plant f Limit = (10 ^ 18 < f.date) ⊎ (2 ^ 40 ≤ length plant.run)
IsWhyNotTaken plant f OutOfMemory = ⊤
