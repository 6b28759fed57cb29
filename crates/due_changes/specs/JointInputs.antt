-- Inputs that meet due dates: the later of two, and those that come before (chapter 5).
use Rattle.std.specs.Prelude.{ℕ, ◌≤◌, ◌↔◌, Option}
use Rattle.teg_model.specs.dioid.declared.dates.Date.{Date}
use Rattle.teg_model.specs.dioid.Dates.{IsAtMostDate, later_of}
use Rattle.teg_model.specs.teg_net.Nets.{NetLists, HasEndsInRange, IsInput}
use Rattle.teg_model.specs.teg_net.Circuits.{IsLive}
use Rattle.due_laws.specs.MeetingDueDates.{AreInputs, InputsMeet, inputs_at_zero}
use Rattle.due_laws.specs.LatestDates.{AreLatestDates}

-- the later of two inputs are inputs
abbrev pub LaterInputsAreInputs : Type 0
LaterInputsAreInputs = (net : NetLists) (v w : ℕ → ℕ → Date) → AreInputs net v → AreInputs net w → AreInputs net (λ t k. later_of (v t k) (w t k))

-- where two inputs meet the due dates, the later of them does
abbrev pub LaterInputsMeet : Type 0
LaterInputsMeet = (net : NetLists) (due : ℕ → ℕ → Option ℕ) (v w : ℕ → ℕ → Date) → InputsMeet net due v → InputsMeet net due w
    → InputsMeet net due (λ t k. later_of (v t k) (w t k))

-- where inputs meet the due dates, all inputs that come no later do
abbrev pub EarlierInputsMeet : Type 0
EarlierInputsMeet = (net : NetLists) → HasEndsInRange net → IsLive net → (due : ℕ → ℕ → Option ℕ) (v w : ℕ → ℕ → Date)
    → ((t k : ℕ) → 1 ≤ k → IsInput net t → IsAtMostDate (v t k) (w t k)) → InputsMeet net due w → InputsMeet net due v

-- of a live net in which inputs at 0 meet the due dates, inputs meet them just where they come no later than the latest dates
abbrev pub InputsMeetUpToLatest : Type 0
InputsMeetUpToLatest = (net : NetLists) → HasEndsInRange net → IsLive net → (due : ℕ → ℕ → Option ℕ) → InputsMeet net due inputs_at_zero
    → (v y : ℕ → ℕ → Date) → AreLatestDates net due y
    → (InputsMeet net due v ↔ ((t k : ℕ) → 1 ≤ k → IsInput net t → IsAtMostDate (v t k) (y t k)))
