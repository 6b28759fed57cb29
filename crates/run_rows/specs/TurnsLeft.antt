-- For how many turns more the tokens and the releases of rows are in time, by the steps of their last turn.
use Rattle.std.specs.Prelude.{ℕ, ℤ, pos, ◌+◌, ◌-◌, ◌*ℤ◌, ◌<◌, ◌≤◌, All, length}
use Rattle.dioid.specs.declared.dates.Date.{Date}
use Rattle.dioid.specs.Dates.{IsAtMostDate, delayed, move}
use Rattle.teg_net.specs.Limits.{greatest_hold}
use Rattle.teg_net.specs.Nets.{NetLists, IsInput}
use Rattle.teg_net.specs.declared.entries.Place.{Place}
use Rattle.teg_net.specs.Inputs.{list_of_input}
use Rattle.teg_model.specs.Datings.{implicit_place, listed_releases}
use Rattle.date_rows.specs.DateTables.{TableDates, date_at}
use Rattle.jump_laws.specs.ListedJumps.{pace_by_list}
use Rattle.jump_laws.specs.Runs.{Run}
use Rattle.run_rows.specs.declared.in_time.Way.{Way}
use Rattle.run_rows.specs.RoomyRuns.{step_of}

-- in each of so many turns, and at least one, the first date, moved by its steps, is at most the second, moved by its own
pub record InTimeFor (turns : ℕ) (token_step step : ℤ) (token date : Date) : Type 0 where
  pub at : (j : ℕ) → 1 ≤ j → j ≤ turns → IsAtMostDate (move (pos j *ℤ token_step) token) (move (pos j *ℤ step) date)

-- the way leads between transitions of rows, holds no longer than a place may, and before the last turn of the rows these have as
-- many numbers as it has tokens
pub record IsWayIn (rows : TableDates) (turn : ℕ) (w : Way) : Type 0 where
  pub from : w.from.index < rows.width
  pub to : w.to.index < rows.width
  pub hold : w.hold ≤ greatest_hold
  pub fits : w.tokens + turn ≤ rows.count

-- the number is one of the last turn of the rows
pub record IsInLastTurn (rows : TableDates) (turn k : ℕ) : Type 0 where
  pub past : rows.count < k + turn
  pub last : k ≤ rows.count

-- at each number of the last turn and for so many turns more, a token that comes from transition `from`, some numbers before, and
-- that holds so long is there in time for transition `to`
pub record IsWayInTime (turns after : ℕ) (rows : TableDates) (last : Run) (from to tokens hold : ℕ) : Type 0 where
  pub each : (k : ℕ) → IsInLastTurn rows last.turn k
      → InTimeFor turns (step_of last from (after + (k - tokens))) (step_of last to (after + k)) (delayed hold (date_at rows from (k - tokens))) (date_at rows to k)

-- that of the place is
abbrev pub IsPlaceInTime : ℕ → ℕ → TableDates → Run → Place → Type 0
IsPlaceInTime turns after rows last p = IsWayInTime turns after rows last p.from.index p.to.index p.tokens p.hold

-- so is the release of an input
pub record IsReleaseInTime (turns after : ℕ) (net : NetLists) (rows : TableDates) (last : Run) (t : ℕ) : Type 0 where
  pub each : (k : ℕ) → IsInLastTurn rows last.turn k
      → InTimeFor turns (pace_by_list last.turn (list_of_input net t)) (step_of last t (after + k)) (listed_releases net t (after + k)) (date_at rows t k)

-- all of them are
pub record AreInTimeFor (turns : ℕ) (net : NetLists) (after : ℕ) (rows : TableDates) (last : Run) : Type 0 where
  pub places : All (IsPlaceInTime turns after rows last) net.places
  pub implicit : (t : ℕ) → t < length net.transitions → IsPlaceInTime turns after rows last (implicit_place t)
  pub inputs : (t : ℕ) → IsInput net t → IsReleaseInTime turns after net rows last t
