-- What shows that delays stay: a circuit to which the plan leaves no spare time (chapters 2 and 3).
use Rattle.std.specs.Prelude.{ℕ, ◌+◌, ◌*◌, ◌≤◌, ◌<◌, ◌≡◌, List, Contains, length}
use Rattle.teg_net.specs.declared.entries.PlaceId.{PlaceId}
use Rattle.teg_net.specs.Nets.{NetLists, HasEndsInRange}
use Rattle.teg_net.specs.Circuits.{from_of, IsPathBetween, IsCircuit, IsLive, BeginsLowest, time_of, tokens_of}
use Rattle.delay_laws.specs.declared.table.Timetable.{Timetable}
use Rattle.delay_laws.specs.PlannedTimetables.{first_planned, delay_given, IsWorkable}
use Rattle.delay_laws.specs.Delays.{AreDelaysLeft}
use Rattle.delay_laws.specs.DelayOutcomes.{KeepsDelays}

-- a circuit that takes just the time that a timetable of this period gives it
pub record IsTightCircuit (net : NetLists) (period : ℕ) (circuit : List PlaceId) : Type 0 where
  pub is_circuit : IsCircuit net circuit
  pub no_spare : time_of net circuit ≡ period * tokens_of net circuit

-- at least the delay that a departure is given is left there
abbrev pub GivenDelaysAreLeft : Type 0
GivenDelaysAreLeft = (net : NetLists) (period : ℕ) (t : Timetable) (delay : ℕ → ℕ → ℕ) → AreDelaysLeft net period t delay
    → (i k : ℕ) → i < length net.transitions → 1 ≤ k → delay_given t i k ≤ delay i k

-- a path passes a delay on, less at most the spare time that the plan leaves along it
abbrev pub PathsPassDelaysOn : Type 0
PathsPassDelaysOn = (net : NetLists) → HasEndsInRange net → (period : ℕ) (t : Timetable) (delay : ℕ → ℕ → ℕ) → AreDelaysLeft net period t delay
    → (i j : ℕ) (path : List PlaceId) → IsPathBetween net i path j → (k : ℕ) → 1 ≤ k
    → (first_planned t i + time_of net path) + delay i k ≤ (first_planned t j + period * tokens_of net path) + delay j (k + tokens_of net path)

-- such a circuit keeps each delay that one of its transitions has: each of its transitions has one as great at numbers past every bound
abbrev pub TightCircuitsPassDelaysRound : Type 0
TightCircuitsPassDelaysRound = (net : NetLists) → HasEndsInRange net → IsLive net → (period : ℕ) (t : Timetable) → IsWorkable net period t
    → (delay : ℕ → ℕ → ℕ) → AreDelaysLeft net period t delay → (circuit : List PlaceId) → IsTightCircuit net period circuit
    → (p q : PlaceId) → Contains circuit p → Contains circuit q → (k : ℕ) → 1 ≤ k
    → (bound : ℕ) → (m : ℕ) × (bound < m) × (delay (from_of net p) k ≤ delay (from_of net q) m)

-- where one of its transitions is late at some number, it is a circuit that keeps delays, told from its lowest numbered transition on
abbrev pub TightCircuitsKeepDelays : Type 0
TightCircuitsKeepDelays = (net : NetLists) → HasEndsInRange net → IsLive net → (period : ℕ) (t : Timetable) → IsWorkable net period t
    → (delay : ℕ → ℕ → ℕ) → AreDelaysLeft net period t delay → (circuit : List PlaceId) → IsTightCircuit net period circuit → BeginsLowest net circuit
    → (p : PlaceId) → Contains circuit p → (k : ℕ) → 1 ≤ k → 1 ≤ delay (from_of net p) k
    → KeepsDelays net period delay circuit
