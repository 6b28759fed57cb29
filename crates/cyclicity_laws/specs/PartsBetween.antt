-- The periods of the times of walks from one transition of a live net to another, whatever its parts (chapter 3, cyclicity).
use Rattle.std.specs.Prelude.{ℕ, ◌*◌, ◌<◌, ◌≤◌, ◌≡◌, List, length}
use Rattle.std.specs.Int.{◌∣◌}
use Rattle.bound_laws.specs.dioid.declared.dates.Date.{Date}
use Rattle.bound_laws.specs.teg_net.declared.entries.PlaceId.{PlaceId}
use Rattle.bound_laws.specs.teg_net.Nets.{NetLists, HasEndsInRange}
use Rattle.bound_laws.specs.teg_net.Circuits.{IsPathBetween, IsCircuit, IsLive, time_of, tokens_of}
use Rattle.bound_laws.specs.teg_net.Parts.{Reaches}
use Rattle.bound_laws.specs.settled_laws.SettledForms.{SettledForm}
use Rattle.bound_laws.specs.Critical.{IsCriticalAt}
use Rattle.walk_times.specs.Transfers.{AreWalkTimes, IsTransferOf}
use Rattle.cyclicity_laws.specs.CriticalParts.{IsCommonOfPart}
use Rattle.cyclicity_laws.specs.PartsTowards.{RepeatBy}

-- a circuit that a way from i to t can go round
pub record IsCircuitBetween (net : NetLists) (i t : ℕ) (ps : List PlaceId) : Type 0 where
  pub circuit : IsCircuit net ps
  pub at : ℕ
  pub round : IsPathBetween net at ps at
  pub from : Reaches net i at
  pub towards : Reaches net at t

-- no such circuit has a greater ratio than a / b, and where that is above 0 some has it
pub record IsRateBetween (net : NetLists) (i t a b : ℕ) : Type 0 where
  pub some : 1 ≤ b
  pub greatest : (ps : List PlaceId) → IsCircuitBetween net i t ps → b * time_of net ps ≤ a * tokens_of net ps
  pub attained : 1 ≤ a → (ps : List PlaceId) × IsCircuitBetween net i t ps × (b * time_of net ps ≡ a * tokens_of net ps)

-- L is common by the critical parts that a way from i to t can go through
abbrev pub IsCommonBetween : NetLists → ℕ → ℕ → ℕ → ℕ → ℕ → Type 0
IsCommonBetween net i t a b L = (c : ℕ) (ps : List PlaceId) → IsCriticalAt net a b c ps → Reaches net i c → Reaches net c t → IsCommonOfPart net a b c L

-- in a live net the greatest times of walks from i to t repeat by each number that is common by what lies between, at its rate; by
-- each number at all where the rate is 0
abbrev pub TransfersRepeatByParts : Type 0
TransfersRepeatByParts =
    (net : NetLists) → HasEndsInRange net → IsLive net → (i : ℕ) → i < length net.transitions → (y : ℕ → ℕ → Date) → AreWalkTimes net i y
    → (t : ℕ) → t < length net.transitions → (a b : ℕ) → IsRateBetween net i t a b
    → (L : ℕ) → 1 ≤ L → (1 ≤ a → IsCommonBetween net i t a b L) → RepeatBy (y t) a b L

-- L is common by what lies between i and t, for each transition t
abbrev pub IsCommonFrom : NetLists → ℕ → ℕ → Type 0
IsCommonFrom net i L =
    (t : ℕ) → t < length net.transitions → (a : ℕ) × (b : ℕ) × IsRateBetween net i t a b × (1 ≤ a → IsCommonBetween net i t a b L)

-- the period of a transfer of a live net divides each such number
abbrev pub PeriodsOfTransfersDivide : Type 0
PeriodsOfTransfersDivide =
    (net : NetLists) → HasEndsInRange net → IsLive net → (i : ℕ) → i < length net.transitions → (f : SettledForm) → IsTransferOf net i f
    → (L : ℕ) → 1 ≤ L → IsCommonFrom net i L → f.period ∣ L

-- each two transitions of a live net have such a rate
abbrev pub RatesBetweenExist : Type 0
RatesBetweenExist =
    (net : NetLists) → HasEndsInRange net → IsLive net → (i : ℕ) → i < length net.transitions → (t : ℕ) → t < length net.transitions
    → (a b : ℕ) × IsRateBetween net i t a b
