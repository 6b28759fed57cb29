-- Greatest times between firings, in a timetable of a period: each is a place back (chapters 2 and 3).
use Rattle.std.specs.Prelude.{ℕ, pos, ◌+◌, ◌-◌, ◌*◌, ◌<◌, ◌≤◌, ◌≡◌, ◌↔◌, ◌++◌, [], List, length, slice_index_or, All}
use Rattle.teg_model.specs.dioid.declared.dates.Date.{Date}
use Rattle.teg_model.specs.dioid.declared.dates.Date.TheVariants.{At}
use Rattle.teg_model.specs.teg_net.declared.entries.Place.{Place}
use Rattle.teg_model.specs.teg_net.Nets.{NetLists, HasEndsInRange, lists_of}
use Rattle.teg_model.specs.teg_net.Ratios.{Fraction}
use Rattle.teg_model.specs.teg_net.Circuits.{IsLive}
use Rattle.teg_model.specs.teg_net.GreatestRatios.{IsGreatestRatio, IsAnyPlace}
use Rattle.teg_model.specs.Datings.{IsFeasibleUnder}
use Rattle.workable_laws.specs.WorkablePeriods.{LeavesCircuitsTime, LeavesPlaceTime, AreWorkableFirsts}
use Rattle.io_laws.specs.InputOutput.{no_releases}

-- firing k + later of transition `to` is to come no more than `most` after firing k of transition `from`, for each k
pub record GreatestTime : Type 0 where
  pub from : ℕ
  pub to : ℕ
  pub later : ℕ
  pub most : ℕ

-- the date of firing k of transition t, where the first firings have these dates and go on by the period
abbrev pub date_by : ℕ → (ℕ → ℕ) → ℕ → ℕ → ℕ
date_by period first t k = first t + period * (k - 1)

-- the dating of them all
abbrev pub dates_by : ℕ → (ℕ → ℕ) → ℕ → ℕ → Date
dates_by period first t k = At (pos (date_by period first t k))

-- dates of first firings leave time for each place just where the dating that goes on by the period is feasible
abbrev pub WorkableFirstsAreFeasible : Type 0
WorkableFirstsAreFeasible = (net : NetLists) (period : ℕ) (first : ℕ → ℕ) → AreWorkableFirsts net period first ↔ IsFeasibleUnder net no_releases (dates_by period first)

-- the dates keep the greatest time
abbrev pub KeepsGreatestTime : ℕ → (ℕ → ℕ) → GreatestTime → Type 0
KeepsGreatestTime period first g = (k : ℕ) → 1 ≤ k → date_by period first g.to (k + g.later) ≤ date_by period first g.from k + g.most

-- the place leads back, from the end of the greatest time to its start; its hold is what its tokens and the later number take
-- at this period, less the greatest time; its tokens are there from 0 on
pub record IsPlaceBack (period : ℕ) (g : GreatestTime) (p : Place) : Type 0 where
  pub starts : p.from.index ≡ g.to
  pub ends : p.to.index ≡ g.from
  pub hold : p.hold + g.most ≡ period * (g.later + p.tokens)
  pub ready : p.ready ≡ []

-- a greatest time is kept just where its place back is left its time, whatever tokens it has
abbrev pub GreatestTimesArePlacesBack : Type 0
GreatestTimesArePlacesBack = (period : ℕ) (first : ℕ → ℕ) (g : GreatestTime) (p : Place) → IsPlaceBack period g p
    → KeepsGreatestTime period first g ↔ LeavesPlaceTime period first p

-- there is such a place with so many tokens wherever its hold would not be below 0
abbrev pub PlacesBackExist : Type 0
PlacesBackExist = (period : ℕ) (g : GreatestTime) (tokens : ℕ) → g.most ≤ period * (g.later + tokens) → (p : Place) × IsPlaceBack period g p × (p.tokens ≡ tokens)

-- as the greatest time from a place's start to the firing that takes its token, the hold of the place: no token waits
abbrev pub without_wait : Place → GreatestTime
without_wait p = record { from = p.from.index; to = p.to.index; later = p.tokens; most = p.hold }

-- where the place is left its time and this greatest time is kept, each token is taken just when its hold ends
abbrev pub NoTokenWaits : Type 0
NoTokenWaits = (period : ℕ) (first : ℕ → ℕ) (p : Place) → LeavesPlaceTime period first p → KeepsGreatestTime period first (without_wait p)
    → (k : ℕ) → 1 ≤ k → date_by period first p.to.index (k + p.tokens) ≡ date_by period first p.from.index k + p.hold

-- a place back for each greatest time
pub record ArePlacesBack (period : ℕ) (times : List GreatestTime) (backs : List Place) : Type 0 where
  pub count : length backs ≡ length times
  pub each : (i : ℕ) (g : GreatestTime) (p : Place) → i < length times → IsPlaceBack period (slice_index_or times i g) (slice_index_or backs i p)

-- the net with these places behind its own
abbrev pub with_places : NetLists → List Place → NetLists
with_places net more = lists_of net.transitions (net.places ++ more) net.inputs

-- dates of first firings leave time for each place of the net and keep each greatest time
pub record KeepsAll (net : NetLists) (period : ℕ) (times : List GreatestTime) (first : ℕ → ℕ) : Type 0 where
  pub keeps_places : AreWorkableFirsts net period first
  pub keeps_times : All (KeepsGreatestTime period first) times

-- a timetable of the period does so
abbrev pub CanKeepAll : NetLists → ℕ → List GreatestTime → Type 0
CanKeepAll net period times = (first : ℕ → ℕ) × KeepsAll net period times first

-- dates do so just where they leave time for each place of the net with the places back
abbrev pub TimesAreKeptByPlacesBack : Type 0
TimesAreKeptByPlacesBack = (net : NetLists) (period : ℕ) (times : List GreatestTime) (backs : List Place) (first : ℕ → ℕ) → ArePlacesBack period times backs
    → KeepsAll net period times first ↔ AreWorkableFirsts (with_places net backs) period first

-- some do just where the period leaves each circuit of that net its time
abbrev pub PeriodsWithGreatestTimes : Type 0
PeriodsWithGreatestTimes = (net : NetLists) (period : ℕ) (times : List GreatestTime) (backs : List Place) → ArePlacesBack period times backs
    → HasEndsInRange (with_places net backs)
    → CanKeepAll net period times ↔ LeavesCircuitsTime (with_places net backs) period

-- and so, where that net is live, just where the period is at least its greatest ratio
abbrev pub GreatestTimesFromTheRatio : Type 0
GreatestTimesFromTheRatio = (net : NetLists) (period : ℕ) (times : List GreatestTime) (backs : List Place) (r : Fraction) → ArePlacesBack period times backs
    → HasEndsInRange (with_places net backs) → IsLive (with_places net backs) → IsGreatestRatio (with_places net backs) IsAnyPlace r
    → CanKeepAll net period times ↔ (r.time ≤ period * r.tokens)

-- of two periods at which all can be kept, each period between them is one
abbrev pub PeriodsBetweenKeepAll : Type 0
PeriodsBetweenKeepAll = (net : NetLists) (times : List GreatestTime) (a b c : ℕ) → a ≤ b → b ≤ c → CanKeepAll net a times → CanKeepAll net c times → CanKeepAll net b times
