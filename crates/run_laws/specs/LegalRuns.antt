-- How runs stand to the least dating, and that no failing firing is legal.
use Rattle.std.specs.Prelude.{ℕ, pos, ◌<◌, ◌≤◌, ◌≡◌, List, Option, Some, length}
use Rattle.teg_model.specs.dioid.declared.dates.Date.{Date}
use Rattle.teg_model.specs.dioid.declared.dates.Date.TheVariants.{At}
use Rattle.teg_model.specs.dioid.Dates.{IsAtMostDate}
use Rattle.teg_net.specs.declared.entries.PlaceId.{PlaceId}
use Rattle.teg_net.specs.Nets.{NetLists, HasEndsInRange}
use Rattle.teg_net.specs.Circuits.{IsLive}
use Rattle.teg_model.specs.Datings.{IsLeastDating}
use Rattle.run_laws.specs.declared.fired.Fired.{Fired}
use Rattle.run_laws.specs.FiringFailures.{IsFirstLateToken, IsBackInTime, IsBeforeRelease}
use Rattle.run_laws.specs.Runs.{firing_date, next_number, IsLegalAfter, IsLegalRun}
use Rattle.run_laws.specs.Earliest.{IsEarliest}

-- no firing of the run comes before its date in x
abbrev pub IsNotEarly : NetLists → (ℕ → ℕ → Date) → List Fired → Type 0
IsNotEarly net x run = (t k date : ℕ) → t < length net.transitions → 1 ≤ k → firing_date run t k ≡ Some date → IsAtMostDate (x t k) (At (pos date))

-- each firing of the run comes at its date in x
abbrev pub IsDatedBy : NetLists → (ℕ → ℕ → Date) → List Fired → Type 0
IsDatedBy net x run = (t k date : ℕ) → t < length net.transitions → 1 ≤ k → firing_date run t k ≡ Some date → x t k ≡ At (pos date)

-- no firing of a legal run comes before its least date
abbrev pub LegalRunsAreNotEarly : Type 0
LegalRunsAreNotEarly =
    (net : NetLists) (x : ℕ → ℕ → Date) (run : List Fired) → HasEndsInRange net → IsLive net
    → IsLeastDating net x → IsLegalRun net run → IsNotEarly net x run

-- where all firings so far came at their least dates, the earliest date of the next firing of a transition is its least date
abbrev pub EarliestIsLeast : Type 0
EarliestIsLeast =
    (net : NetLists) (x : ℕ → ℕ → Date) (run : List Fired) (t date : ℕ) → HasEndsInRange net → IsLive net
    → IsLeastDating net x → IsDatedBy net x run → t < length net.transitions
    → IsEarliest net run t (next_number run t) date → x t (next_number run t) ≡ At (pos date)

-- a firing that fails in one of the three ways may not follow the run
pub record FailuresAreNotLegal : Type 0 where
  pub late : (net : NetLists) (run : List Fired) (f : Fired) (id : PlaceId) (there : Option ℕ) → IsFirstLateToken net run f id there → IsLegalAfter net run f → ⊥
  pub back : (net : NetLists) (run : List Fired) (f : Fired) (last : ℕ) → IsBackInTime net run f last → IsLegalAfter net run f → ⊥
  pub unreleased : (net : NetLists) (run : List Fired) (f : Fired) (release : Option ℕ) → IsBeforeRelease net run f release → IsLegalAfter net run f → ⊥

-- no firing fails in two of them
pub record FailuresAreOne : Type 0 where
  pub late_not_back : (net : NetLists) (run : List Fired) (f : Fired) (id : PlaceId) (there : Option ℕ) (last : ℕ) → IsFirstLateToken net run f id there → IsBackInTime net run f last → ⊥
  pub late_not_unreleased : (net : NetLists) (run : List Fired) (f : Fired) (id : PlaceId) (there release : Option ℕ) → IsFirstLateToken net run f id there → IsBeforeRelease net run f release → ⊥
  pub back_not_unreleased : (net : NetLists) (run : List Fired) (f : Fired) (last : ℕ) (release : Option ℕ) → IsBackInTime net run f last → IsBeforeRelease net run f release → ⊥
