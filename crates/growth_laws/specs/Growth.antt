-- How the dates of a transition grow: along a line of its slope (chapter 3, cycle time as growth rate).
use Rattle.std.specs.Prelude.{ℕ, pos, ◌+◌, ◌*◌, ◌<◌, ◌≤◌, ◌≡◌, ◌+ℤ◌, ◌*ℤ◌, ◌≤ℤ◌, length}
use Rattle.periodic_laws.specs.dioid.declared.dates.Date.{Date}
use Rattle.periodic_laws.specs.dioid.declared.dates.Date.TheVariants.{Early, At, Never}
use Rattle.periodic_laws.specs.teg_net.declared.entries.Again.{Again}
use Rattle.periodic_laws.specs.teg_net.declared.entries.InputList.{InputList}
use Rattle.periodic_laws.specs.teg_net.Nets.{NetLists, HasEndsInRange, HasListsOfInputs, HasRisingLists, HasListsByRule}
use Rattle.periodic_laws.specs.teg_net.Circuits.{IsLive}
use Rattle.periodic_laws.specs.teg_model.Datings.{IsLeastDating}
use Rattle.slope_laws.specs.Slopes.{IsEndedTowards, IsGoingOnTowards, IsSlope}

-- the date comes, and b times it is no more than c below a times k and no more than d above
abbrev pub IsNearLine : (a b c d k : ℕ) → Date → Type 0
IsNearLine a b c d k Early = ⊥
IsNearLine a b c d k (At x) = (pos (a * k) ≤ℤ ((pos b *ℤ x) +ℤ pos c)) × ((pos b *ℤ x) ≤ℤ pos (a * k + d))
IsNearLine a b c d k Never = ⊥

-- dates that stay near a line of rise a / b
pub record GrowBy (dates : ℕ → Date) (a b : ℕ) : Type 0 where
  pub below : ℕ
  pub above : ℕ
  pub near : (k : ℕ) → 1 ≤ k → IsNearLine a b below above k (dates k)

-- no input whose list ends reaches the transition
abbrev pub IsEndless : NetLists → ℕ → Type 0
IsEndless net t = (l : InputList) → IsEndedTowards net t l → ⊥

-- in a live net the least dates of a transition that no ended list reaches grow by each of its slopes
abbrev pub DatesGrowBySlopes : Type 0
DatesGrowBySlopes =
    (net : NetLists) → HasEndsInRange net → HasListsOfInputs net → HasRisingLists net → HasListsByRule net → IsLive net
    → (x : ℕ → ℕ → Date) → IsLeastDating net x → (t : ℕ) → t < length net.transitions → IsEndless net t
    → (a b : ℕ) → 1 ≤ b → IsSlope net t b a → GrowBy (x t) a b

-- it has one
abbrev pub SlopesExist : Type 0
SlopesExist =
    (net : NetLists) → HasEndsInRange net → HasListsOfInputs net → HasRisingLists net → HasListsByRule net → IsLive net
    → (x : ℕ → ℕ → Date) → IsLeastDating net x → (t : ℕ) → t < length net.transitions → IsEndless net t
    → (a : ℕ) × (b : ℕ) × (1 ≤ b) × IsSlope net t b a

-- and only one, as a fraction, where each list that goes on to it repeats some of its dates
abbrev pub SlopesAreOne : Type 0
SlopesAreOne =
    (net : NetLists) → IsLive net → (t a b c d : ℕ) → ((l : InputList) (again : Again) → IsGoingOnTowards net t l again → 1 ≤ again.every)
    → 1 ≤ b → 1 ≤ d → IsSlope net t b a → IsSlope net t d c → a * d ≡ c * b
