-- What the replay of a log comes to.
use Rattle.std.specs.Prelude.{ℕ, ◌<◌, ◌≤◌, ◌≡◌, ◌++◌, [], List, length, take, map, Option, Some, None, Result, Ok, Err, slice_index_or}
use Rattle.teg_net.specs.Nets.{NetLists}
use Rattle.teg_outside.specs.declared.monitor.Firing.{Firing}
use Rattle.run_laws.specs.declared.fired.Fired.{Fired}
use Rattle.teg_due.specs.declared.rows.LogRow.{LogRow}
use Rattle.teg_replay.specs.declared.replayed.Refused.{Refused}
use Rattle.teg_replay.specs.declared.replayed.Replayed.{Replayed}
use Rattle.run_laws.specs.Runs.{IsLegalRun}
use Rattle.teg_replay.specs.RefusedFirings.{Fails}
use Rattle.teg_replay.specs.Firings.{IsFiringOf}

-- the firing that a row tells of
abbrev pub fired_of : LogRow → Fired
fired_of row = record { transition = row.transition; date = row.date }

-- the firings that rows tell of
abbrev pub run_of : List LogRow → List Fired
run_of rows = map fired_of rows

-- the first rows are a legal run, and this is told of each of them
pub record AreFiringsOf (net : NetLists) (rows : List LogRow) (firings : List Firing) : Type 0 where
  pub within : length firings ≤ length rows
  pub legal : IsLegalRun net (run_of (take (length firings) rows))
  pub told : (i : ℕ) (row : LogRow) (firing : Firing) → i < length firings
      → IsFiringOf net (run_of (take i rows)) (fired_of (slice_index_or rows i row)) (slice_index_or firings i firing)

-- the row after the first n fails to be legal after them, and is told with the way in which it fails
pub record IsRefusedRow (net : NetLists) (rows : List LogRow) (n : ℕ) (refused : Refused) : Type 0 where
  pub in_range : n < length rows
  pub number : (row : LogRow) → refused.row ≡ (slice_index_or rows n row).row
  pub fails : (row : LogRow) → Fails net (run_of (take n rows)) (fired_of (slice_index_or rows n row)) refused.why

-- after the first n rows the log ends, or one is refused
abbrev pub EndsBy : NetLists → List LogRow → ℕ → Option Refused → Type 0
EndsBy net rows n None = n ≡ length rows
EndsBy net rows n (Some refused) = IsRefusedRow net rows n refused

-- the rows are accepted up to the first refused one
pub record IsReplayOf (net : NetLists) (rows : List LogRow) (firings : List Firing) (replayed : Replayed) : Type 0 where
  pub accepted : replayed.accepted ≡ length firings
  pub told : AreFiringsOf net rows firings
  pub ends : EndsBy net rows (length firings) replayed.refused

-- the firings were shown to monitors, in order, each once; of the monitors before and now it is given what they would
-- print by the further firings that they would see
pub record WereShown (before now : List Firing → List (List ℕ)) (firings : List Firing) : Type 0 where
  pub further : (more : List Firing) → now more ≡ before (firings ++ more)
  pub lines : now [] ≡ before firings

-- what a replay did, by its answer: the rows are accepted up to the first refused one and shown; with want of memory, some first rows
abbrev pub Replays : {E : Type 0} → NetLists → List LogRow → (List Firing → List (List ℕ)) → (List Firing → List (List ℕ)) → Result Replayed E → Type 0
Replays net rows before now (Ok replayed) = (firings : List Firing) × IsReplayOf net rows firings replayed × WereShown before now firings
Replays net rows before now (Err e) = (firings : List Firing) × AreFiringsOf net rows firings × WereShown before now firings
