-- The dates that a delayed timetable leads to: the releases, the delayed dating, and the delays that are left (chapters 2 and 3).
use Rattle.std.specs.Prelude.{ℕ, pos, ◌+◌, ◌-◌, ◌≤◌, ◌<◌, ◌≡◌, length, nat_lt, if◌then◌else◌}
use Rattle.periodic_laws.specs.dioid.declared.dates.Date.{Date}
use Rattle.periodic_laws.specs.dioid.declared.dates.Date.TheVariants.{At}
use Rattle.teg_net.specs.Nets.{NetLists}
use Rattle.periodic_laws.specs.teg_model.Systems.{IsLeastIn}
use Rattle.periodic_laws.specs.teg_model.Datings.{initial_date, system_with}
use Rattle.settled_laws.specs.SettledForms.{SettledForm, IsShortestForm, SettlesPast}
use Rattle.delay_laws.specs.declared.table.Timetable.{Timetable}
use Rattle.delay_laws.specs.PlannedTimetables.{planned, delay_given}

-- the greatest planned date with its delay, over the departures of transition i up to number k
pub record IsReleaseAt (period : ℕ) (t : Timetable) (i k date : ℕ) : Type 0 where
  pub attained : (s : ℕ) × (1 ≤ s) × (s ≤ k) × (date ≡ planned period t i s + delay_given t i s)
  pub greatest : (s : ℕ) → 1 ≤ s → s ≤ k → planned period t i s + delay_given t i s ≤ date

-- the releases of the net's departures by the plan and the delays
abbrev pub IsRelease : NetLists → ℕ → Timetable → (ℕ → ℕ → Date) → Type 0
IsRelease net period t w = (i k : ℕ) → i < length net.transitions → 1 ≤ k → (date : ℕ) × (w i k ≡ At (pos date)) × IsReleaseAt period t i k date

-- w are the releases of all transitions, and x is the least dating of the net's places with their ready dates under them; the
-- roles of transitions and the net's input lists play no part
pub record IsDelayedBy (net : NetLists) (period : ℕ) (t : Timetable) (x w : ℕ → ℕ → Date) : Type 0 where
  pub release : IsRelease net period t w
  pub least : IsLeastIn (system_with net initial_date w) x

-- the delay left at departure k of transition i in a dating is what its date has above the plan
abbrev pub AreAbovePlan : NetLists → ℕ → Timetable → (ℕ → ℕ → Date) → (ℕ → ℕ → ℕ) → Type 0
AreAbovePlan net period t x delay = (i k : ℕ) → i < length net.transitions → 1 ≤ k → x i k ≡ At (pos (planned period t i k + delay i k))

-- the delays left at the departures of the net
abbrev pub AreDelaysLeft : NetLists → ℕ → Timetable → (ℕ → ℕ → ℕ) → Type 0
AreDelaysLeft net period t delay = (x : ℕ → ℕ → Date) × (w : ℕ → ℕ → Date) × IsDelayedBy net period t x w × AreAbovePlan net period t x delay

-- the dates of both for n transitions each: x below n, and from n on w
abbrev pub together : ℕ → (ℕ → ℕ → Date) → (ℕ → ℕ → Date) → ℕ → ℕ → Date
together n x w i k = if nat_lt i n then x i k else w (i - n) k

-- the shortest settled form of the delayed dating and the releases together: first the rows of the dating, then those of the releases
abbrev pub IsFormOfDelays : NetLists → ℕ → Timetable → SettledForm → Type 0
IsFormOfDelays net period t f =
    (x : ℕ → ℕ → Date) × (w : ℕ → ℕ → Date) × IsDelayedBy net period t x w
    × IsShortestForm (length net.transitions + length net.transitions) f (together (length net.transitions) x w)

-- the delayed dating and the releases together have no settled form of at most this length
abbrev pub DelaysSettlePast : NetLists → ℕ → Timetable → ℕ → Type 0
DelaysSettlePast net period t limit =
    (x : ℕ → ℕ → Date) × (w : ℕ → ℕ → Date) × IsDelayedBy net period t x w
    × SettlesPast (length net.transitions + length net.transitions) (together (length net.transitions) x w) limit
