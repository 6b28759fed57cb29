-- The least dating goes on: the rest of it is the least dating of the rest of the system, and of the net that a run leaves (chapter 2).
use Rattle.std.specs.Prelude.{ℕ, ◌≤◌, List, All}
use Rattle.teg_model.specs.dioid.declared.dates.Date.{Date}
use Rattle.teg_net.specs.Nets.{NetLists, HasEndsInRange}
use Rattle.teg_net.specs.Circuits.{IsLive}
use Rattle.teg_model.specs.Systems.{System, IsLeastIn}
use Rattle.teg_model.specs.Datings.{IsLeastDating, IsLeastUnder}
use Rattle.teg_model.specs.LeastDatings.{AreSameOn}
use Rattle.run_laws.specs.declared.fired.Fired.{Fired}
use Rattle.run_laws.specs.Runs.{IsLegalRun}
use Rattle.state_laws.specs.Rests.{ArePaid, HappenedInTime, IsLeastAfter, continued, dating_left, rest_of, with_happened}
use Rattle.state_laws.specs.NetsLeft.{AreReleasesLeft, IsFed, IsLeastFromNow, IsNetAfter, count_in, date_in, system_after, system_from, system_under}

-- the least dating after what happened is, from there on, the least dating of the rest of the system
abbrev pub LeastDatingsGoOn : Type 0
LeastDatingsGoOn = (s : System) (count : ℕ → ℕ) (date x : ℕ → ℕ → Date) → ArePaid count s.places
    → IsLeastAfter s count date x → IsLeastIn (rest_of s count date) (dating_left count x)

-- and the least dating of the rest, put behind what happened, is the least after it
abbrev pub RestsAreContinued : Type 0
RestsAreContinued = (s : System) (count : ℕ → ℕ) (date y : ℕ → ℕ → Date) → ArePaid count s.places
    → IsLeastIn (rest_of s count date) y → IsLeastAfter s count date (continued count date y)

-- the least dating of a system is the least after any firings of its own
abbrev pub LeastDatingsAreLeastAfter : Type 0
LeastDatingsAreLeastAfter = (s : System) (count : ℕ → ℕ) (x : ℕ → ℕ → Date) → ArePaid count s.places → IsLeastIn s x → IsLeastAfter s count x x

-- where all happened in time, the least dating in which it is not released before it did is the least after it
abbrev pub HappenedMayBeReleased : Type 0
HappenedMayBeReleased = (s : System) (count : ℕ → ℕ) (date x : ℕ → ℕ → Date) → ArePaid count s.places → HappenedInTime s count date
    → IsLeastIn (with_happened s count date) x → IsLeastAfter s count date x

-- a run of a net that is over by now, in which no place gave more tokens than it had and got
pub record IsOver (net : NetLists) (run : List Fired) (now : ℕ) : Type 0 where
  pub paid : ArePaid (count_in run) net.places
  pub over : All (λ f. f.date ≤ now) run

-- under any releases u of inputs the least dating of a live net from now on is, from there on, the least dating of the net that the run leaves,
-- under the releases to come
abbrev pub NetsGoOnUnder : Type 0
NetsGoOnUnder = (net : NetLists) (run : List Fired) (now : ℕ) (rest : NetLists) (u v x : ℕ → ℕ → Date) → HasEndsInRange net → IsLive net → IsFed net
    → IsOver net run now → IsNetAfter net run now rest → AreReleasesLeft net run now u v
    → IsLeastAfter (system_under net now u) (count_in run) (date_in run) x → IsLeastUnder rest v (dating_left (count_in run) x)

-- so by the input lists of both
abbrev pub NetsGoOn : Type 0
NetsGoOn = (net : NetLists) (run : List Fired) (now : ℕ) (rest : NetLists) (x : ℕ → ℕ → Date) → HasEndsInRange net → IsLive net → IsFed net
    → IsOver net run now → IsNetAfter net run now rest
    → IsLeastFromNow net run now x → IsLeastDating rest (dating_left (count_in run) x)

-- the net that a run leaves of a live net is live where no place gave more tokens than it had and got
abbrev pub NetsStayLive : Type 0
NetsStayLive = (net : NetLists) (run : List Fired) (now : ℕ) (rest : NetLists) → HasEndsInRange net → IsLive net
    → ArePaid (count_in run) net.places → IsNetAfter net run now rest → IsLive rest

-- each least dating of the net that the run leaves, under releases to come of which none is before now, is, from there on, that of the net from now on
abbrev pub NetsAreContinuedUnder : Type 0
NetsAreContinuedUnder = (net : NetLists) (run : List Fired) (now : ℕ) (rest : NetLists) (u v y : ℕ → ℕ → Date) → HasEndsInRange net → IsLive net → IsFed net
    → IsOver net run now → IsNetAfter net run now rest → AreReleasesLeft net run now u v → IsLeastUnder rest v y
    → (x : ℕ → ℕ → Date) × IsLeastAfter (system_under net now u) (count_in run) (date_in run) x × AreSameOn net (dating_left (count_in run) x) y

-- so by the input lists of both
abbrev pub NetsAreContinued : Type 0
NetsAreContinued = (net : NetLists) (run : List Fired) (now : ℕ) (rest : NetLists) (y : ℕ → ℕ → Date) → HasEndsInRange net → IsLive net → IsFed net
    → IsOver net run now → IsNetAfter net run now rest → IsLeastDating rest y
    → (x : ℕ → ℕ → Date) × IsLeastFromNow net run now x × AreSameOn net (dating_left (count_in run) x) y

-- of a legal run no place gave more tokens than it had and got, and each firing came in time
pub record IsInTime (net : NetLists) (run : List Fired) (now : ℕ) : Type 0 where
  pub paid : ArePaid (count_in run) net.places
  pub in_time : HappenedInTime (system_from net now) (count_in run) (date_in run)

-- legal runs are so
abbrev pub LegalRunsAreInTime : Type 0
LegalRunsAreInTime = (net : NetLists) (run : List Fired) (now : ℕ) → IsLegalRun net run → IsInTime net run now

-- after a legal run that is over by now the least dating in which no firing that happened is released before it did, and no other one before now, is,
-- from there on, the least dating of the net that the run leaves
abbrev pub LegalRunsGoOn : Type 0
LegalRunsGoOn = (net : NetLists) (run : List Fired) (now : ℕ) (rest : NetLists) (x : ℕ → ℕ → Date) → HasEndsInRange net → IsLive net → IsFed net
    → IsLegalRun net run → All (λ f. f.date ≤ now) run → IsNetAfter net run now rest
    → IsLeastIn (system_after net run now) x → IsLeastDating rest (dating_left (count_in run) x)
