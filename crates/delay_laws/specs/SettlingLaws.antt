-- What holds of the settled forms of delayed timetables (chapter 3).
use Rattle.std.specs.Prelude.{ℕ, ℤ, pos, negsuc, ◌+◌, ◌-◌, ◌*◌, ◌≤◌, ◌<◌, ◌≡◌, length}
use Rattle.periodic_laws.specs.dioid.declared.dates.Date.{Date}
use Rattle.periodic_laws.specs.dioid.declared.dates.Date.TheVariants.{Early, At, Never}
use Rattle.teg_net.specs.Nets.{NetLists, HasEndsInRange, HasListsOfInputs, HasListsByRule}
use Rattle.teg_net.specs.Circuits.{IsLive}
use Rattle.settled_laws.specs.SettledForms.{SettledForm, RepeatsAfter, IsSettledFormOf, NetSettlesPast, settled_date}
use Rattle.delay_laws.specs.declared.table.Timetable.{Timetable}
use Rattle.delay_laws.specs.PlannedTimetables.{planned, AreDelaysUpTo, IsWorkable}
use Rattle.delay_laws.specs.Delays.{IsDelayedBy, AreDelaysLeft, together, IsFormOfDelays, DelaysSettlePast}
use Rattle.delay_laws.specs.ReleaseNets.{IsReleaseNet}

-- the delayed dating and the releases of each timetable settle together
abbrev pub DelaysSettle : Type 0
DelaysSettle = (net : NetLists) → HasEndsInRange net → IsLive net → (period : ℕ) → 1 ≤ period → (t : Timetable) → (f : SettledForm) × IsFormOfDelays net period t f

-- a net with the releases as inputs is live where the net is
abbrev pub ReleaseNetsAreLive : Type 0
ReleaseNetsAreLive = (net : NetLists) → HasEndsInRange net → IsLive net → (period : ℕ) (t : Timetable) (derived : NetLists) → IsReleaseNet net period t derived → IsLive derived

-- the settled form of its least dating is that of the delayed dating and the releases together, and both settle past the same lengths
pub record TellsDelays (net : NetLists) (period : ℕ) (t : Timetable) (derived : NetLists) : Type 0 where
  pub forms : (f : SettledForm) → IsSettledFormOf derived f → IsFormOfDelays net period t f
  pub past : (limit : ℕ) → NetSettlesPast derived limit → DelaysSettlePast net period t limit

-- the least dating of each net with the releases as inputs tells the delays
abbrev pub ReleaseNetsTellDelays : Type 0
ReleaseNetsTellDelays = (net : NetLists) → HasEndsInRange net → IsLive net → (period : ℕ) (t : Timetable) (derived : NetLists)
    → HasEndsInRange derived → HasListsOfInputs derived → HasListsByRule derived → IsReleaseNet net period t derived → TellsDelays net period t derived

-- in each period the dates go on by as many planned steps
abbrev pub StepsAreThePlan : Type 0
StepsAreThePlan = (net : NetLists) → HasEndsInRange net → (period : ℕ) (t : Timetable) → IsWorkable net period t
    → (x w : ℕ → ℕ → Date) → IsDelayedBy net period t x w → (after again : ℕ) (step : ℕ → ℤ)
    → RepeatsAfter (length net.transitions + length net.transitions) (together (length net.transitions) x w) after again step
    → (i : ℕ) → i < length net.transitions + length net.transitions → step i ≡ pos (period * again)

-- the number of a date, 0 where it has none
abbrev pub natural_of_date : Date → ℕ
natural_of_date Early = 0
natural_of_date (At (pos n)) = n
natural_of_date (At (negsuc n)) = 0
natural_of_date Never = 0

-- the delay that a form tells: the date less the plan
abbrev pub delay_by_form : SettledForm → ℕ → Timetable → ℕ → ℕ → ℕ
delay_by_form f period t i k = natural_of_date (settled_date f i k) - planned period t i k

-- delays left at the departures of the net, which past `after` come again in each `again` numbers
pub record AreSettledDelays (net : NetLists) (period : ℕ) (t : Timetable) (delay : ℕ → ℕ → ℕ) (after again : ℕ) : Type 0 where
  pub left : AreDelaysLeft net period t delay
  pub some : 1 ≤ again
  pub comes_again : (i k : ℕ) → i < length net.transitions → after < k → delay i (k + again) ≡ delay i k

-- the form tells the date of each departure as its plan and the delay that is left, and the delays come again
abbrev pub FormsTellDelays : Type 0
FormsTellDelays = (net : NetLists) → HasEndsInRange net → (period : ℕ) (t : Timetable) → IsWorkable net period t
    → (f : SettledForm) → IsFormOfDelays net period t f
    → AreSettledDelays net period t (delay_by_form f period t) f.after f.period
    × ((i k : ℕ) → i < length net.transitions → 1 ≤ k → settled_date f i k ≡ At (pos (planned period t i k + delay_by_form f period t i k)))

-- no delay that is left is above the greatest that is given
abbrev pub DelaysLeftAreWithin : Type 0
DelaysLeftAreWithin = (net : NetLists) → HasEndsInRange net → (period : ℕ) (t : Timetable) → IsWorkable net period t
    → (delay : ℕ → ℕ → ℕ) → AreDelaysLeft net period t delay → (most : ℕ) → AreDelaysUpTo most t
    → (i k : ℕ) → i < length net.transitions → 1 ≤ k → delay i k ≤ most
