-- Working definitions of the walks that show the dates of releases without end.
use Rattle.std.specs.Prelude.{ℕ, ℤ, ◌+◌, ◌*◌, ◌/◌, ◌<◌, ◌≤◌, ◌≡◌, ◌≢◌, List, Option, Some, None, Any, length}
use Rattle.dioid.specs.declared.dates.Date.{Date}
use Rattle.dioid.specs.declared.dates.Date.TheVariants.{Never}
use Rattle.dioid.specs.Dates.{move}
use Rattle.teg_net.specs.declared.entries.Again.{Again}
use Rattle.teg_net.specs.declared.entries.InputList.{InputList}
use Rattle.teg_net.specs.Inputs.{list_date}
use Rattle.teg_net.specs.Circuits.{IsLive}
use Rattle.teg_net.specs.Nets.{NetLists, IsNet}
use Rattle.teg_due.specs.declared.rows.DueRow.{DueRow}
use Rattle.teg_model.specs.Datings.{as_date, listed_releases}
use Rattle.teg_text.specs.Lines.{written}
use Rattle.due_laws.specs.LatestDates.{IsDateToDue}
use Rattle.due_laws.specs.MeetingDueDates.{InputsMeet}
use Rattle.dating_certificates.specs.CheckedRows.{date_up_to}
use Rattle.endless_due.specs.declared.row.EndlessRow.{EndlessRow}
use Rattle.endless_due.specs.EndlessRows.{row_due, due_on, IsEndlessOf}
use Rattle.endless_laws.specs.WalksToDues.{IsTurningWalk}
use Rattle.forever_check.specs.declared.turns.Turn.{Turn}
use Rattle.forever_check.specs.ShownReleases.{AreReleases, list_release, released_lines, with_lists}

-- this net has input lists that the whole text tells: releases of the inputs of a live net, which meet what is due
pub record IsMeetingNet (net : NetLists) (rows : List EndlessRow) (text : List ℕ) (released : NetLists) : Type 0 where
  pub rules : IsNet released
  pub is : released ≡ with_lists net released.inputs
  pub live : IsLive net
  pub due : IsEndlessOf net rows
  pub releases : AreReleases net released.inputs
  pub told : text ≡ written (released_lines net released.inputs)
  pub meet : InputsMeet net (due_on rows) (listed_releases released)

-- ---- turns

-- the turn is some rounds of dates that go on by this gap in so many firings
pub record IsTurnOf (every gap : ℕ) (turn : Turn) : Type 0 where
  pub by_every : turn.firings ≡ turn.firings / every * every
  pub by_gap : turn.rise ≡ turn.firings / every * gap

-- so many dates that are listed, which go on so, go on with the turn past its start
pub record GoesByTurn (listed : ℕ) (a : Again) (turn : Turn) : Type 0 where
  pub some : 1 ≤ turn.firings
  pub past : listed ≤ turn.past + a.every
  pub turns : IsTurnOf a.every a.gap turn

-- a list goes on with the turn
abbrev pub GoesWith : List ℕ → Option Again → Turn → Type 0
GoesWith dates None turn = ⊥
GoesWith dates (Some a) turn = GoesByTurn (length dates) a turn

-- ---- the shortest of lists that tell the same dates

-- the date of firing k by dates that go on so
abbrev pub going_release : List ℕ → Again → ℕ → Date
going_release dates a k = as_date (list_date dates (Some a) k)

-- past the number they go on by some step in so many firings
abbrev pub GoesOnIn : List ℕ → Again → (past every : ℕ) → Type 0
GoesOnIn dates a past every = (step : ℤ) × ((k : ℕ) → past < k → going_release dates a (k + every) ≡ move step (going_release dates a k))

-- they do so in no fewer firings, and past no smaller number
abbrev pub IsShortestIn : List ℕ → Again → Type 0
IsShortestIn dates a = (past every : ℕ) → 1 ≤ every → GoesOnIn dates a past every → (a.every ≤ every) × (length dates ≤ past + a.every)

-- ---- due rows

-- the row makes this firing due at this date
pub record IsDueBy (r : EndlessRow) (d : DueRow) : Type 0 where
  pub names : r.transition.index ≡ d.transition.index
  pub due : row_due r d.number ≡ Some d.date

-- it does so where it goes on, and it goes on with the turn
pub record IsTurningDue (turn : Turn) (r : EndlessRow) (d : DueRow) : Type 0 where
  pub by_row : IsDueBy r d
  pub goes_on : length r.dates < d.number + r.every
  pub turns : IsTurnOf r.every r.gap turn

-- some row makes this firing due at this date
pub record IsDueIn (rows : List EndlessRow) (d : DueRow) : Type 0 where
  pub by_some : Any (λ r. IsDueBy r d) rows

-- some row that goes on with the turn does
pub record IsTurningIn (turn : Turn) (rows : List EndlessRow) (d : DueRow) : Type 0 where
  pub by_some : Any (λ r. IsTurningDue turn r d) rows

-- ---- releases

-- in rows up to a number firing k has its date by the list, which is not never
pub record IsToldAt (net : NetLists) (last : ℕ) (dates : List Date) (l : InputList) (k : ℕ) : Type 0 where
  pub is : date_up_to last (length net.transitions) dates l.transition.index k ≡ list_release l k
  pub dated : list_release l k ≢ Never

-- a walk to a due firing shows the date of each firing past the first number and up to the second
abbrev pub AreShownBetween : NetLists → (ℕ → ℕ → Option ℕ) → InputList → ℕ → ℕ → Type 0
AreShownBetween net due l first last = (k : ℕ) → first < k → k ≤ last → IsDateToDue net due l.transition.index k (list_release l k)

-- a walk that turns as the dates do shows each date of the first turn
abbrev pub AreShownInTurn : NetLists → List EndlessRow → InputList → Turn → Type 0
AreShownInTurn net rows l turn =
    (k : ℕ) → turn.past < k → k ≤ turn.past + turn.firings → IsTurningWalk net rows l.transition.index k (list_release l k) turn.firings turn.rise

-- a walk to a due firing shows each date that is not never
abbrev pub IsReleaseShown : NetLists → List EndlessRow → InputList → Type 0
IsReleaseShown net rows l = (k : ℕ) → 1 ≤ k → list_release l k ≢ Never → IsDateToDue net (due_on rows) l.transition.index k (list_release l k)
