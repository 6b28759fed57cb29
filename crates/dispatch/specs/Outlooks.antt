-- What the dates of a net after what happened miss, what a shop is, and which firings it takes down.
use Rattle.std.specs.Prelude.{ℕ, Bool, true, false, pos, int_lt, nat_le, ◌&&◌, ◌<◌, ◌≤◌, ◌^◌, ◌⊎◌, List, All, length}
use Rattle.dioid.specs.declared.dates.Date.{Date}
use Rattle.dioid.specs.declared.dates.Date.TheVariants.{Early, At, Never}
use Rattle.teg_net.specs.Nets.{NetLists}
use Rattle.date_rows.specs.DateTables.{TableDates, date_at}
use Rattle.teg_due.specs.declared.rows.DueRow.{DueRow}
use Rattle.run_laws.specs.declared.fired.Fired.{Fired}
use Rattle.run_laws.specs.Runs.{IsLegalAfter}
use Rattle.teg_replay.specs.Games.{GameState, IsGameOf}
use Rattle.teg_replay.specs.RefusedFirings.{IsFailure, IsRightFireRefusal}
use Rattle.dispatch.specs.declared.dispatcher.NotFired.{NotFired}
use Rattle.dispatch.specs.declared.dispatcher.NotFired.TheVariants.{NoTransition, Limit, Refused}

-- a date is after this one
abbrev pub is_after : Date → ℕ → Bool
is_after Early due = false
is_after (At date) due = int_lt (pos due) date
is_after Never due = true

-- the table has the firing of the row, and at a date after it is due
abbrev pub is_missed : TableDates → DueRow → Bool
is_missed table row = nat_le row.number table.count && is_after (date_at table row.transition.index row.number) row.date

-- a net and the firings that happened in it
pub record ShopState : Type 0 where
  pub net : NetLists
  pub run : List Fired

-- the game is one of the net, and its dates keep their limit
pub record IsShopOf (net : NetLists) (game : GameState) : Type 0 where
  pub stands : IsGameOf net game
  pub dates : All (λ f. f.date ≤ 10 ^ 18) game.run

-- why a firing is not taken down: the net has no such transition, a limit is reached, or the firing may not follow what happened
abbrev pub IsWhyNotFired : ShopState → Fired → NotFired → Type 0
IsWhyNotFired shop f NoTransition = length shop.net.transitions ≤ f.transition.index
IsWhyNotFired shop f Limit = (10 ^ 18 < f.date) ⊎ (2 ^ 40 ≤ length shop.run)
IsWhyNotFired shop f (Refused refusal) = IsRightFireRefusal shop.net shop.run f refusal × (IsFailure refusal → IsLegalAfter shop.net shop.run f → ⊥)
