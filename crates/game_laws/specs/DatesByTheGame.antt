-- The least dates of a live net are the earliest dates that legal runs reach (chapter 2).
use Rattle.std.specs.Prelude.{ℕ, pos, ◌<◌, ◌≤◌, ◌≡◌, ◌↔◌, List, Some, length}
use Rattle.teg_model.specs.dioid.declared.dates.Date.{Date}
use Rattle.teg_model.specs.dioid.declared.dates.Date.TheVariants.{At, Never}
use Rattle.teg_net.specs.Nets.{NetLists, HasEndsInRange}
use Rattle.teg_net.specs.Circuits.{IsLive}
use Rattle.teg_model.specs.Datings.{IsLeastDating}
use Rattle.run_laws.specs.declared.fired.Fired.{Fired}
use Rattle.run_laws.specs.Runs.{dates_of_transition, firing_date, IsLegalRun}

-- some legal run has firing k of transition t at the date, and none has it before
pub record IsEarliestOfRuns (net : NetLists) (t k date : ℕ) : Type 0 where
  pub reached : (run : List Fired) × IsLegalRun net run × (firing_date run t k ≡ Some date)
  pub first : (run : List Fired) (other : ℕ) → IsLegalRun net run → firing_date run t k ≡ Some other → date ≤ other

-- a least date of a live net is a number just where that is the earliest date of the firing in a legal run
abbrev pub LeastDatesAreEarliest : Type 0
LeastDatesAreEarliest =
    (net : NetLists) (x : ℕ → ℕ → Date) → HasEndsInRange net → IsLive net → IsLeastDating net x
    → (t k date : ℕ) → t < length net.transitions → 1 ≤ k → x t k ≡ At (pos date) ↔ IsEarliestOfRuns net t k date

-- and it is never just where no legal run fires the transition so often
abbrev pub NeverIsInNoRun : Type 0
NeverIsInNoRun =
    (net : NetLists) (x : ℕ → ℕ → Date) → HasEndsInRange net → IsLive net → IsLeastDating net x
    → (t k : ℕ) → t < length net.transitions → 1 ≤ k
    → x t k ≡ Never ↔ ((run : List Fired) → IsLegalRun net run → length (dates_of_transition run t) < k)
