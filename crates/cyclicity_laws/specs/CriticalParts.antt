-- The strong parts of the critical graph of a strongly connected net, and the period of its dates (chapter 3, cyclicity).
use Rattle.std.specs.Prelude.{ℕ, ◌*◌, ◌<◌, ◌≤◌, ◌≡◌, List, ◌++◌, length, All}
use Rattle.std.specs.Int.{◌∣◌}
use Rattle.bound_laws.specs.dioid.declared.dates.Date.{Date}
use Rattle.bound_laws.specs.teg_net.declared.entries.PlaceId.{PlaceId}
use Rattle.bound_laws.specs.teg_net.Nets.{NetLists, HasEndsInRange, HasListsOfInputs, IsInput}
use Rattle.bound_laws.specs.teg_net.Circuits.{IsPathBetween, IsCircuit, IsLive, time_of, tokens_of}
use Rattle.bound_laws.specs.teg_net.GreatestRatios.{IsGreatestRatio, IsAnyPlace}
use Rattle.bound_laws.specs.teg_model.Datings.{IsLeastDating}
use Rattle.bound_laws.specs.settled_laws.SettledForms.{SettledForm, IsShortestForm}
use Rattle.growth_laws.specs.Growth.{GrowBy}
use Rattle.bound_laws.specs.Critical.{IsCriticalAt, IsCommon, EachReachesEach}

-- live, without inputs, each transition reaches each other, and the greatest ratio is a / b
pub record IsStronglyConnected (net : NetLists) (a b : ℕ) : Type 0 where
  pub ends : HasEndsInRange net
  pub lists : HasListsOfInputs net
  pub live : IsLive net
  pub no_input : (t : ℕ) → IsInput net t → ⊥
  pub reaches : EachReachesEach net
  pub ratio : IsGreatestRatio net IsAnyPlace (record { time = a; tokens = b })

-- a circuit of the strong part of the critical graph in which transition c is: it has the ratio, and so has a way that
-- leads from c to it and back
pub record IsCircuitOfCriticalPart (net : NetLists) (a b c : ℕ) (ps : List PlaceId) : Type 0 where
  pub circuit : IsCircuit net ps
  pub at : ℕ
  pub round : IsPathBetween net at ps at
  pub critical : b * time_of net ps ≡ a * tokens_of net ps
  pub there : List PlaceId
  pub back : List PlaceId
  pub to : IsPathBetween net c there at
  pub from : IsPathBetween net at back c
  pub way : b * time_of net (there ++ back) ≡ a * tokens_of net (there ++ back)

-- L is a multiple of the greatest common divisor of the tokens of the circuits: what divides each of them divides L
abbrev pub IsMultipleOfGcd : NetLists → List (List PlaceId) → ℕ → Type 0
IsMultipleOfGcd net circuits L = (d : ℕ) → All (λ ps. d ∣ tokens_of net ps) circuits → d ∣ L

-- of the strong part of the critical graph in which c is, L is a multiple of the greatest common divisor of the tokens of some circuits
abbrev pub IsCommonOfPart : NetLists → ℕ → ℕ → ℕ → ℕ → Type 0
IsCommonOfPart net a b c L = (circuits : List (List PlaceId)) × All (IsCircuitOfCriticalPart net a b c) circuits × IsMultipleOfGcd net circuits L

-- L is such a number for each strong part of the critical graph
abbrev pub IsCommonByParts : NetLists → ℕ → ℕ → ℕ → Type 0
IsCommonByParts net a b L = (c : ℕ) (ps : List PlaceId) → IsCriticalAt net a b c ps → IsCommonOfPart net a b c L

-- the period of the shortest settled form of the least dating divides each such number
abbrev pub PeriodsDivideByParts : Type 0
PeriodsDivideByParts =
    (net : NetLists) (a b : ℕ) → IsStronglyConnected net a b → (x : ℕ → ℕ → Date) → IsLeastDating net x
    → (f : SettledForm) → IsShortestForm (length net.transitions) f x → (L : ℕ) → 1 ≤ L → IsCommonByParts net a b L → f.period ∣ L

-- each common multiple of single critical circuits is such a number
abbrev pub CommonMultiplesAreByParts : Type 0
CommonMultiplesAreByParts = (net : NetLists) (a b L : ℕ) → IsCommon net a b L → IsCommonByParts net a b L

-- the dates of each transition stay near a line that rises by the greatest ratio
abbrev pub DatesGrowByCycleTime : Type 0
DatesGrowByCycleTime =
    (net : NetLists) (a b : ℕ) → IsStronglyConnected net a b → (x : ℕ → ℕ → Date) → IsLeastDating net x → (t : ℕ) → t < length net.transitions → GrowBy (x t) a b
