-- That there are least dates of first firings at a period, whole or a fraction, and but one list of them (chapters 2 and 3).
use Rattle.std.specs.Prelude.{ℕ, ◌<◌, ◌≡◌, length}
use Rattle.teg_net.specs.Nets.{NetLists}
use Rattle.teg_loops.specs.Loops.{EndsBelow}
use Rattle.change_laws.specs.SlowerNets.{HasReadyDatesOfTokens}
use Rattle.workable_laws.specs.WorkablePeriods.{LeavesCircuitsTime}
use Rattle.timetable_calls.specs.Earliest.{AreLeastFirsts}
use Rattle.timetable_calls.specs.FractionPeriods.{AreLeastFirstsAt, LeavesCircuitsTimeAt}

-- where a period leaves each circuit its time there are least dates of first firings
abbrev pub LeastFirstsExist : Type 0
LeastFirstsExist = (net : NetLists) (period : ℕ) → EndsBelow net (length net.transitions) → HasReadyDatesOfTokens net → LeavesCircuitsTime net period
    → (f : ℕ → ℕ) × AreLeastFirsts net period f

-- and no others
abbrev pub LeastFirstsAreOne : Type 0
LeastFirstsAreOne = (net : NetLists) (period : ℕ) (f g : ℕ → ℕ) → AreLeastFirsts net period f → AreLeastFirsts net period g
    → (t : ℕ) → t < length net.transitions → f t ≡ g t

-- the same at a period that is a fraction, with dates in parts of the unit
abbrev pub LeastFirstsExistAt : Type 0
LeastFirstsExistAt = (net : NetLists) (scale period : ℕ) → EndsBelow net (length net.transitions) → HasReadyDatesOfTokens net → LeavesCircuitsTimeAt net scale period
    → (f : ℕ → ℕ) × AreLeastFirstsAt net scale period f

-- and no others
abbrev pub LeastFirstsAreOneAt : Type 0
LeastFirstsAreOneAt = (net : NetLists) (scale period : ℕ) (f g : ℕ → ℕ) → AreLeastFirstsAt net scale period f → AreLeastFirstsAt net scale period g
    → (t : ℕ) → t < length net.transitions → f t ≡ g t
