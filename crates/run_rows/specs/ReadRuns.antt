-- Runs that are read off rows.
use Rattle.std.specs.Prelude.{ℕ, ◌+◌, ◌-◌, ◌*◌, ◌<◌, ◌≤◌, ◌≡◌, List, [], All, length, slice_index_or}
use Rattle.dioid.specs.declared.dates.Date.{Date}
use Rattle.dioid.specs.declared.dates.Date.TheVariants.{Early}
use Rattle.dioid.specs.Dates.{move}
use Rattle.teg_net.specs.Nets.{NetLists}
use Rattle.teg_model.specs.Datings.{IsLeastDating}
use Rattle.date_rows.specs.DateTables.{TableDates, date_at}
use Rattle.jump_laws.specs.Jumps.{MovesUpTo}
use Rattle.jump_laws.specs.ListedJumps.{GoesOnInTurns}
use Rattle.jump_laws.specs.Runs.{Run, IsRunOf}
use Rattle.run_rows.specs.RoomyRuns.{end_of, step_of}
use Rattle.run_rows.specs.TurnsLeft.{AreInTimeFor, IsPlaceInTime}

-- the dates of transition t from number `first` of the rows on, so many
pub record IsColumn (rows : TableDates) (t first count : ℕ) (dates : List Date) : Type 0 where
  pub long : length dates ≡ count
  pub same : (i : ℕ) → i < count → slice_index_or dates i Early ≡ date_at rows t (first + i)

-- those of each transition
pub record AreColumns (rows : TableDates) (first count : ℕ) (columns : List (List Date)) : Type 0 where
  pub wide : length columns ≡ rows.width
  pub each : (t : ℕ) → t < rows.width → IsColumn rows t first count (slice_index_or columns t [])

-- a run of one turn, that of the last dates of the rows, which stand for the numbers past `after`
pub record IsLastTurn (after : ℕ) (rows : TableDates) (last : Run) : Type 0 where
  pub first : last.first + last.turn ≡ after + rows.count + 1
  pub once : last.turns ≡ 1
  pub columns : AreColumns rows (rows.count - last.turn + 1) last.turn last.dates

-- from number `from` of the rows on the dates of transition t move in a turn by the steps of the run
pub record MovesInRows (after : ℕ) (rows : TableDates) (last : Run) (from t : ℕ) : Type 0 where
  pub moves : (k : ℕ) → from ≤ k → k + last.turn ≤ rows.count → date_at rows t (k + last.turn) ≡ move (step_of last t (after + k)) (date_at rows t k)

-- a run of the least dating of the net, which has each number past `before` up to `end`
pub record IsLeastRun (net : NetLists) (before end : ℕ) (r : Run) : Type 0 where
  pub least : (x : ℕ → ℕ → Date) → IsLeastDating net x → IsRunOf (length net.transitions) x r
  pub from : r.first ≤ before + 1
  pub to : r.first + r.turns * r.turn ≡ end + 1

-- the rows move by the steps of the run, in as many numbers before its last two turns as a place may have tokens too, and for so many
-- turns more, at least two and as many numbers as a place may have tokens, all tokens and releases are in time
pub record GoesOnFor (net : NetLists) (most after : ℕ) (rows : TableDates) (last : Run) (turns : ℕ) : Type 0 where
  pub lists : All (GoesOnInTurns last.turn (after + ((rows.count - last.turn) - last.turn))) net.inputs
  pub moves : (t : ℕ) → t < length net.transitions → MovesInRows after rows last ((((rows.count - last.turn) - last.turn) - most) + 1) t
  pub left : AreInTimeFor turns net after rows last
  pub some : 2 ≤ turns
  pub long : most ≤ turns * last.turn

-- the last two turns of the rows, and as many numbers before them as a place may have tokens, move by the steps of the run, and so
-- do the least dates for so many turns more, in each of which the tokens are in time
pub record IsJumpWindow (net : NetLists) (most after : ℕ) (rows : TableDates) (r : Run) (turns : ℕ) : Type 0 where
  pub more : r.turns ≡ turns + 1
  pub some : 1 ≤ r.turn
  pub first : r.first + r.turn ≡ after + rows.count + 1
  pub fits : most + r.turn + r.turn ≤ rows.count
  pub moves : (x : ℕ → ℕ → Date) → IsLeastDating net x
      → MovesUpTo (length net.transitions) x (after + (((rows.count - r.turn) - r.turn) - most)) r.turn ((after + rows.count) + turns * r.turn) (step_of r)
  pub in_time : All (IsPlaceInTime turns after rows r) net.places

-- such a run of the least dating, which begins in the rows and leads on past them by as many numbers as a place may have tokens
pub record IsJumpRun (net : NetLists) (most after : ℕ) (rows : TableDates) (r : Run) : Type 0 where
  pub run : IsLeastRun net (after + rows.count) (end_of r) r
  pub begins : 1 ≤ r.first
  pub long : after + rows.count + most ≤ end_of r
  pub window : IsJumpWindow net most after rows r (r.turns - 1)
