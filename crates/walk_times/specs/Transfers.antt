-- The times of walks from the first firing of an input (chapter 2).
use Rattle.std.specs.Prelude.{ℕ, pos, ◌<◌, ◌≤◌, ◌≡◌, ◌⊎◌, List, length}
use Rattle.dioid.specs.declared.dates.Date.{Date}
use Rattle.dioid.specs.declared.dates.Date.TheVariants.{Early, At}
use Rattle.dioid.specs.Dates.{IsAtMostDate}
use Rattle.teg_net.specs.declared.walks.Step.{Step}
use Rattle.teg_net.specs.Nets.{NetLists}
use Rattle.teg_net.specs.Walks.{Walks, walk_time}
use Rattle.periodic_laws.specs.settled_laws.SettledForms.{SettledForm, IsShortestForm, SettlesPast}

-- d is the greatest time of a walk from the first firing of the input to firing k of transition t, Early where there is none
pub record IsGreatestWalkTime (net : NetLists) (input t k : ℕ) (d : Date) : Type 0 where
  pub reached : ((d ≡ Early) × ((steps : List Step) → Walks net input 1 steps t k → ⊥))
      ⊎ ((steps : List Step) × Walks net input 1 steps t k × (d ≡ At (pos (walk_time net steps))))
  pub greatest : (steps : List Step) → Walks net input 1 steps t k → IsAtMostDate (At (pos (walk_time net steps))) d

-- x has the greatest times of such walks to each firing
abbrev pub AreWalkTimes : NetLists → ℕ → (ℕ → ℕ → Date) → Type 0
AreWalkTimes net input x = (t k : ℕ) → t < length net.transitions → 1 ≤ k → IsGreatestWalkTime net input t k (x t k)

-- the shortest form that stands for the greatest times of walks from the first firing of the input
abbrev pub IsTransferOf : NetLists → ℕ → SettledForm → Type 0
IsTransferOf net input f = (x : ℕ → ℕ → Date) × AreWalkTimes net input x × IsShortestForm (length net.transitions) f x

-- the greatest times of walks from the first firing of the input have no form of at most this length
abbrev pub TransferSettlesPast : NetLists → ℕ → ℕ → Type 0
TransferSettlesPast net input limit = (x : ℕ → ℕ → Date) × AreWalkTimes net input x × SettlesPast (length net.transitions) x limit
