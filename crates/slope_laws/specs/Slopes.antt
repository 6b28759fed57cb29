-- By how much the dates of a transition rise in a period (chapter 3).
use Rattle.std.specs.Prelude.{ℕ, ℤ, pos, ◌*◌, ◌≤◌, ◌≡◌, ◌⊎◌, ◌↔◌, List, Some, None, Contains}
use Rattle.settled_laws.specs.dioid.declared.dates.Date.{Date}
use Rattle.settled_laws.specs.dioid.declared.dates.Date.TheVariants.{Never}
use Rattle.settled_laws.specs.teg_net.declared.entries.PlaceId.{PlaceId}
use Rattle.settled_laws.specs.teg_net.declared.entries.Again.{Again}
use Rattle.settled_laws.specs.teg_net.declared.entries.InputList.{InputList}
use Rattle.settled_laws.specs.teg_net.Nets.{NetLists}
use Rattle.settled_laws.specs.teg_net.Circuits.{time_of, tokens_of}
use Rattle.settled_laws.specs.teg_net.Parts.{Reaches}
use Rattle.teg_loops.specs.Loops.{IsCircuitTowards}
use Rattle.settled_laws.specs.SettledForms.{IsTail}

-- an input list of the net that ends, and from whose transition a path leads to t
pub record IsEndedTowards (net : NetLists) (t : ℕ) (l : InputList) : Type 0 where
  pub of_net : Contains net.inputs l
  pub ends : l.again ≡ None
  pub reaches : Reaches net l.transition.index t

-- an input list of the net that goes on so, and from whose transition a path leads to t
pub record IsGoingOnTowards (net : NetLists) (t : ℕ) (l : InputList) (again : Again) : Type 0 where
  pub of_net : Contains net.inputs l
  pub goes_on : l.again ≡ Some again
  pub reaches : Reaches net l.transition.index t

-- step over period is the greatest of 0, time over tokens of the circuits from which a path leads to t, and gap over
-- `every` of the lists that go on and from whose transitions a path leads to t: none is greater, and one is equal
pub record IsSlope (net : NetLists) (t period step : ℕ) : Type 0 where
  pub circuits : (ps : List PlaceId) → IsCircuitTowards net t ps → period * time_of net ps ≤ step * tokens_of net ps
  pub lists : (l : InputList) (again : Again) → IsGoingOnTowards net t l again → period * again.gap ≤ step * again.every
  pub attained : (step ≡ 0) ⊎ ((ps : List PlaceId) × IsCircuitTowards net t ps × (step * tokens_of net ps ≡ period * time_of net ps))
      ⊎ ((l : InputList) × (again : Again) × IsGoingOnTowards net t l again × (step * again.every ≡ period * again.gap))

-- the dates of the first period past `after` are all Never exactly where a list that ends reaches t; if they are not,
-- the step is a whole number from 0 on, and over the period it is the slope of t
pub record HasSlope (net : NetLists) (dates : ℕ → Date) (t after period : ℕ) (step : ℤ) : Type 0 where
  pub never : IsTail dates after period Never ↔ ((l : InputList) × IsEndedTowards net t l)
  pub slope : (IsTail dates after period Never → ⊥) → (units : ℕ) × (step ≡ pos units) × IsSlope net t period units
