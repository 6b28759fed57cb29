-- The period of the dates of one transition of a live net that may have inputs and several parts (chapter 3, cyclicity).
use Rattle.std.specs.Prelude.{ℕ, ◌+◌, ◌*◌, ◌<◌, ◌≤◌, ◌≡◌, List, length}
use Rattle.std.specs.Int.{◌∣◌}
use Rattle.bound_laws.specs.dioid.declared.dates.Date.{Date}
use Rattle.bound_laws.specs.dioid.Dates.{delayed}
use Rattle.bound_laws.specs.teg_net.declared.entries.PlaceId.{PlaceId}
use Rattle.bound_laws.specs.teg_net.declared.entries.Again.{Again}
use Rattle.bound_laws.specs.teg_net.declared.entries.InputList.{InputList}
use Rattle.bound_laws.specs.teg_net.Nets.{NetLists, HasEndsInRange, HasListsOfInputs, HasRisingLists, HasListsByRule}
use Rattle.bound_laws.specs.teg_net.Circuits.{IsLive}
use Rattle.bound_laws.specs.teg_net.Parts.{Reaches}
use Rattle.bound_laws.specs.teg_model.Datings.{IsLeastDating}
use Rattle.bound_laws.specs.settled_laws.SettledForms.{SettledForm, IsShortestForm}
use Rattle.bound_laws.specs.Critical.{IsCriticalAt}
use Rattle.slope_laws.specs.Slopes.{IsGoingOnTowards, IsSlope}
use Rattle.growth_laws.specs.Growth.{IsEndless}
use Rattle.cyclicity_laws.specs.CriticalParts.{IsCommonOfPart}

-- of what leads to t at the rate a / b, L is a multiple of the cyclicity: for a strong part of the critical graph the greatest
-- common divisor of the tokens of its circuits, for an input list that goes on its `every`
pub record IsCommonTowards (net : NetLists) (t a b L : ℕ) : Type 0 where
  pub parts : (c : ℕ) (ps : List PlaceId) → IsCriticalAt net a b c ps → Reaches net c t → IsCommonOfPart net a b c L
  pub lists : (l : InputList) (again : Again) → IsGoingOnTowards net t l again → b * again.gap ≡ a * again.every → again.every ∣ L

-- past some number each date is that of L firings before, later by a / b for each of them
pub record RepeatBy (dates : ℕ → Date) (a b L : ℕ) : Type 0 where
  pub after : ℕ
  pub step : ℕ
  pub rate : b * step ≡ a * L
  pub again : (k : ℕ) → after < k → dates (k + L) ≡ delayed step (dates k)

-- in a live net the least dates of a transition that no ended list reaches repeat by each number that is common by what leads
-- to it at its slope; by each number at all where the slope is 0
abbrev pub DatesRepeatByParts : Type 0
DatesRepeatByParts =
    (net : NetLists) → HasEndsInRange net → HasListsOfInputs net → HasRisingLists net → HasListsByRule net → IsLive net
    → (x : ℕ → ℕ → Date) → IsLeastDating net x
    → (t : ℕ) → t < length net.transitions → IsEndless net t → (a b : ℕ) → 1 ≤ b → IsSlope net t b a
    → (L : ℕ) → 1 ≤ L → (1 ≤ a → IsCommonTowards net t a b L) → RepeatBy (x t) a b L

-- L is common by what leads to it at its slope, for each transition that no ended list reaches and whose slope is above 0
abbrev pub IsCommonOfNet : NetLists → ℕ → Type 0
IsCommonOfNet net L =
    (t : ℕ) → t < length net.transitions → IsEndless net t → (a : ℕ) × (b : ℕ) × (1 ≤ b) × IsSlope net t b a × (1 ≤ a → IsCommonTowards net t a b L)

-- the period of the shortest settled form of the least dating of a live net divides each such number
abbrev pub PeriodsDivideOfNets : Type 0
PeriodsDivideOfNets =
    (net : NetLists) → HasEndsInRange net → HasListsOfInputs net → HasRisingLists net → HasListsByRule net → IsLive net
    → (x : ℕ → ℕ → Date) → IsLeastDating net x
    → (f : SettledForm) → IsShortestForm (length net.transitions) f x → (L : ℕ) → 1 ≤ L → IsCommonOfNet net L → f.period ∣ L
