-- What holds of the dates that a delayed timetable leads to (chapters 2 and 3).
use Rattle.std.specs.Prelude.{ℕ, pos, ◌≤◌, ◌<◌, ◌≡◌, length}
use Rattle.periodic_laws.specs.dioid.declared.dates.Date.{Date}
use Rattle.periodic_laws.specs.dioid.declared.dates.Date.TheVariants.{At}
use Rattle.teg_net.specs.Nets.{NetLists, HasEndsInRange}
use Rattle.teg_net.specs.Circuits.{IsLive}
use Rattle.periodic_laws.specs.teg_model.LeastDatings.{AreSameOn}
use Rattle.delay_laws.specs.declared.table.Timetable.{Timetable}
use Rattle.delay_laws.specs.PlannedTimetables.{planned, AreDelaysUpTo, IsPastDelays, IsWorkable}
use Rattle.delay_laws.specs.Delays.{IsRelease, IsDelayedBy, AreAbovePlan}

-- each timetable has releases and a delayed dating in each live net
abbrev pub DelayedDatingsExist : Type 0
DelayedDatingsExist = (net : NetLists) → HasEndsInRange net → IsLive net → (period : ℕ) (t : Timetable)
    → (x : ℕ → ℕ → Date) × (w : ℕ → ℕ → Date) × IsDelayedBy net period t x w

-- any two delayed datings of a timetable are the same at the departures of the net, and so are their releases
abbrev pub DelayedDatingsAreOne : Type 0
DelayedDatingsAreOne = (net : NetLists) → HasEndsInRange net → (period : ℕ) (t : Timetable) (x w y v : ℕ → ℕ → Date)
    → IsDelayedBy net period t x w → IsDelayedBy net period t y v → AreSameOn net x y × AreSameOn net w v

-- where the plan leaves time for each place, no departure comes before its plan, nor after it by more than the greatest delay
abbrev pub DelaysAreWithin : Type 0
DelaysAreWithin = (net : NetLists) → HasEndsInRange net → (period : ℕ) (t : Timetable) → IsWorkable net period t
    → (x w : ℕ → ℕ → Date) → IsDelayedBy net period t x w → (most : ℕ) → AreDelaysUpTo most t
    → (delay : ℕ → ℕ → ℕ) × AreAbovePlan net period t x delay × ((i k : ℕ) → i < length net.transitions → 1 ≤ k → delay i k ≤ most)

-- past the delays that are given, the releases are the plan
abbrev pub ReleasesFollowThePlan : Type 0
ReleasesFollowThePlan = (net : NetLists) (period : ℕ) (t : Timetable) (w : ℕ → ℕ → Date) → IsRelease net period t w
    → (i k : ℕ) → i < length net.transitions → 1 ≤ k → IsPastDelays period t i k → w i k ≡ At (pos (planned period t i k))

-- each transition has a departure from which on its departures are past the delays that are given
abbrev pub EachDelayPasses : Type 0
EachDelayPasses = (period : ℕ) → 1 ≤ period → (t : Timetable) (i : ℕ) → (number : ℕ) × (1 ≤ number) × ((k : ℕ) → number ≤ k → IsPastDelays period t i k)
