-- What becomes of a firing after a run: it is legal, from an earliest date on, or it fails in one of three ways (chapter 2).
use Rattle.std.specs.Prelude.{ℕ, ◌<◌, ◌≤◌, ◌⊎◌, List, Option, length}
use Rattle.teg_net.specs.declared.entries.PlaceId.{PlaceId}
use Rattle.teg_net.specs.Nets.{NetLists}
use Rattle.run_laws.specs.declared.fired.Fired.{Fired}
use Rattle.run_laws.specs.Runs.{next_number, IsLegalAfter, IsLegalRun}
use Rattle.run_laws.specs.Earliest.{IsEarliest}
use Rattle.run_laws.specs.FiringFailures.{IsFirstLateToken, IsBackInTime, IsBeforeRelease}

-- where a firing may follow a legal run, there is an earliest date for it
abbrev pub EarliestDatesExist : Type 0
EarliestDatesExist =
    (net : NetLists) (run : List Fired) (f : Fired) → IsLegalRun net run → IsLegalAfter net run f
    → (date : ℕ) × (date ≤ f.date) × IsEarliest net run f.transition.index (next_number run f.transition.index) date

-- the firing fails in one of the three ways
abbrev pub FailsAfter : NetLists → List Fired → Fired → Type 0
FailsAfter net run f =
    ((id : PlaceId) × (there : Option ℕ) × IsFirstLateToken net run f id there)
    ⊎ (((last : ℕ) × IsBackInTime net run f last) ⊎ ((release : Option ℕ) × IsBeforeRelease net run f release))

-- each firing of a transition of the net may follow the run, or fails
abbrev pub FiringsAreLegalOrFail : Type 0
FiringsAreLegalOrFail = (net : NetLists) (run : List Fired) (f : Fired) → f.transition.index < length net.transitions → IsLegalAfter net run f ⊎ FailsAfter net run f
