-- Periods at which a net can be kept to a timetable (chapters 2 and 3).
use Rattle.std.specs.Prelude.{ℕ, ◌+◌, ◌-◌, ◌*◌, ◌<◌, ◌≤◌, ◌≡◌, ◌↔◌, List, length, All}
use Rattle.teg_model.specs.teg_net.declared.entries.PlaceId.{PlaceId}
use Rattle.teg_model.specs.teg_net.declared.entries.Place.{Place}
use Rattle.teg_model.specs.teg_net.Nets.{NetLists, HasEndsInRange}
use Rattle.teg_model.specs.teg_net.ReadyDates.{ready_date}
use Rattle.teg_model.specs.teg_net.Ratios.{Fraction}
use Rattle.teg_model.specs.teg_net.Circuits.{IsCircuit, IsLive, time_of, tokens_of}
use Rattle.teg_model.specs.teg_net.GreatestRatios.{IsGreatestRatio, IsAnyPlace}
use Rattle.delay_laws.specs.declared.table.Timetable.{Timetable}
use Rattle.delay_laws.specs.PlannedTimetables.{first_planned, IsWorkable}

-- no circuit takes longer than the period gives it for its tokens
abbrev pub LeavesCircuitsTime : NetLists → ℕ → Type 0
LeavesCircuitsTime net period = (ps : List PlaceId) → IsCircuit net ps → time_of net ps ≤ period * tokens_of net ps

-- a timetable that the net can keep leaves each circuit its time
abbrev pub WorkablePeriodsLeaveTime : Type 0
WorkablePeriodsLeaveTime = (net : NetLists) (period : ℕ) (t : Timetable) → IsWorkable net period t → LeavesCircuitsTime net period

-- and its period is at least the greatest ratio
abbrev pub WorkablePeriodsAreAboveRatios : Type 0
WorkablePeriodsAreAboveRatios =
    (net : NetLists) (period : ℕ) (t : Timetable) (r : Fraction) → IsLive net → IsWorkable net period t → IsGreatestRatio net IsAnyPlace r → r.time ≤ period * r.tokens

-- dates of the first firings, which go on by the period, leave time for the place and for its initial tokens
pub record LeavesPlaceTime (period : ℕ) (f : ℕ → ℕ) (p : Place) : Type 0 where
  pub leaves_time : f p.from.index + p.hold ≤ f p.to.index + period * p.tokens
  pub ready : (k : ℕ) → 1 ≤ k → k ≤ p.tokens → ready_date p k ≤ f p.to.index + period * (k - 1)

-- they leave time for each place
abbrev pub AreWorkableFirsts : NetLists → ℕ → (ℕ → ℕ) → Type 0
AreWorkableFirsts net period f = All (LeavesPlaceTime period f) net.places

-- a net can keep a timetable just where its first departures are such dates
abbrev pub WorkableIsByFirsts : Type 0
WorkableIsByFirsts = (net : NetLists) (period : ℕ) (t : Timetable) → IsWorkable net period t ↔ AreWorkableFirsts net period (first_planned t)

-- and so where its first departures are equal to such dates
abbrev pub TimetablesFromFirstsAreWorkable : Type 0
TimetablesFromFirstsAreWorkable =
    (net : NetLists) (period : ℕ) (f : ℕ → ℕ) (t : Timetable) → HasEndsInRange net → AreWorkableFirsts net period f
    → ((i : ℕ) → i < length net.transitions → first_planned t i ≡ f i) → IsWorkable net period t

-- a net has such dates of first firings just where the period leaves each circuit its time
abbrev pub PeriodsAreWorkable : Type 0
PeriodsAreWorkable = (net : NetLists) (period : ℕ) → HasEndsInRange net → ((f : ℕ → ℕ) × AreWorkableFirsts net period f) ↔ LeavesCircuitsTime net period

-- and so, of a live net with a circuit, just where the period is at least the greatest ratio
abbrev pub PeriodsFromTheRatioAreWorkable : Type 0
PeriodsFromTheRatioAreWorkable =
    (net : NetLists) (period : ℕ) (r : Fraction) → HasEndsInRange net → IsLive net → IsGreatestRatio net IsAnyPlace r
    → ((f : ℕ → ℕ) × AreWorkableFirsts net period f) ↔ (r.time ≤ period * r.tokens)
