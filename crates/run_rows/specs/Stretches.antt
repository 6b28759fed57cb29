-- What one stretch of rows comes to, and all of them.
use Rattle.std.specs.Prelude.{ℕ, ◌+◌, ◌≤◌, List, IfSome, IsTrue}
use Rattle.teg_net.specs.Nets.{NetLists}
use Rattle.date_rows.specs.DateTables.{TableDates}
use Rattle.date_rows.specs.KeptRows.{AreLeastRows}
use Rattle.jump_laws.specs.Runs.{Run}
use Rattle.run_rows.specs.declared.by_jumps.Ahead.{Ahead}
use Rattle.run_rows.specs.declared.reached.Reached.{Reached}
use Rattle.run_rows.specs.declared.stretches.Stretch.{Stretch}
use Rattle.run_rows.specs.LeastRuns.{AreLateRuns, AreLeastRuns, AreRowsPast, system_past}
use Rattle.run_rows.specs.ReadRuns.{IsJumpRun}
use Rattle.run_rows.specs.RoomyRuns.{end_of}

-- runs of the least dating that have the last numbers up to where they end, and each number where all of them are kept
pub record AreReached (net : NetLists) (most : ℕ) (r : Reached) : Type 0 where
  pub late : AreLateRuns net most r.after r.runs.runs
  pub least : IsTrue r.all → AreLeastRuns net r.after r.runs.runs

-- runs that have the last numbers of the least dating up to `after`, and rows that go on from them
pub record AreRowsFrom (net : NetLists) (most after : ℕ) (runs : List Run) (rows : TableDates) : Type 0 where
  pub runs_late : AreLateRuns net most after runs
  pub least : AreLeastRows net (system_past net runs after) rows

-- rows of the least dating past a number, and a jump after them up to another, if there is one
pub record IsStretch (net : NetLists) (most after number : ℕ) (s : Stretch) : Type 0 where
  pub rows : AreRowsPast net after s.rows
  pub some : 1 ≤ s.rows.count
  pub few : after + s.rows.count ≤ number
  pub jump : IfSome s.jump (IsJumpRun net most after s.rows)
  pub up_to : IfSome s.jump (λ run. end_of run ≤ number)

-- runs that have a number, and rows past that, at most up to the last
pub record IsAhead (net : NetLists) (most number : ℕ) (a : Ahead) : Type 0 where
  pub reached : AreReached net most a.reached
  pub rows : AreRowsPast net a.reached.after a.rows
  pub few : a.reached.after + a.rows.count ≤ number
