-- A timetable has one settled form and one family of delays left in a net: they do not hang on which delayed dating is taken.
use Rattle.std.specs.Prelude.{ℕ, ◌+◌, ◌≤◌, ◌<◌, ◌≡◌, length}
use Rattle.periodic_laws.specs.dioid.declared.dates.Date.{Date}
use Rattle.teg_net.specs.Nets.{NetLists, HasEndsInRange}
use Rattle.settled_laws.specs.SettledForms.{SettledForm, IsShortestForm}
use Rattle.delay_laws.specs.declared.table.Timetable.{Timetable}
use Rattle.delay_laws.specs.Delays.{IsDelayedBy, AreDelaysLeft, together, IsFormOfDelays}

-- the settled form is that of each delayed dating with its releases
abbrev pub FormsAreOfEach : Type 0
FormsAreOfEach = (net : NetLists) → HasEndsInRange net → (period : ℕ) (t : Timetable) (f : SettledForm) → IsFormOfDelays net period t f
    → (x w : ℕ → ℕ → Date) → IsDelayedBy net period t x w
    → IsShortestForm (length net.transitions + length net.transitions) f (together (length net.transitions) x w)

-- a timetable has one settled form of delays in a net
abbrev pub FormsOfDelaysAreOne : Type 0
FormsOfDelaysAreOne = (net : NetLists) → HasEndsInRange net → (period : ℕ) (t : Timetable) (f g : SettledForm) → IsFormOfDelays net period t f → IsFormOfDelays net period t g → f ≡ g

-- a timetable leaves one delay at each departure of a net
abbrev pub DelaysLeftAreOne : Type 0
DelaysLeftAreOne = (net : NetLists) → HasEndsInRange net → (period : ℕ) (t : Timetable) (a b : ℕ → ℕ → ℕ) → AreDelaysLeft net period t a → AreDelaysLeft net period t b
    → (i k : ℕ) → i < length net.transitions → 1 ≤ k → a i k ≡ b i k
