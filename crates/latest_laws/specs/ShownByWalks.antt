-- What a walk that a plan or a refusal names shows by itself (chapter 5).
use Rattle.std.specs.Prelude.{ℕ, pos, ◌<◌, ◌≡◌, Option, Some}
use Rattle.teg_model.specs.dioid.declared.dates.Date.{Date}
use Rattle.teg_model.specs.dioid.declared.dates.Date.TheVariants.{At}
use Rattle.teg_model.specs.dioid.Dates.{IsAtMostDate}
use Rattle.teg_model.specs.teg_net.Nets.{NetLists, HasEndsInRange}
use Rattle.teg_model.specs.teg_net.declared.walks.Walk.{Walk}
use Rattle.teg_model.specs.Datings.{IsFeasibleUnder}
use Rattle.due_laws.specs.MeetingDueDates.{KeepsDues, InputsMeet}
use Rattle.due_laws.specs.LatestDates.{IsTightWalk, IsLateWalk}

-- no feasible dating that keeps the due dates, under any inputs, comes to the first firing of a tight walk after its date
abbrev pub TightWalksBound : Type 0
TightWalksBound = (net : NetLists) → HasEndsInRange net → (due : ℕ → ℕ → Option ℕ) (t k : ℕ) (date : Date) (w : Walk) → IsTightWalk net due t k date w
    → (u x : ℕ → ℕ → Date) → IsFeasibleUnder net u x → KeepsDues net due x → IsAtMostDate (x t k) date

-- in no feasible dating, whatever the inputs, does the firing at which a walk ends come before the date of the walk
abbrev pub LateWalksBound : Type 0
LateWalksBound = (net : NetLists) → HasEndsInRange net → (t k start date : ℕ) (w : Walk) → IsLateWalk net t k start date w
    → (u x : ℕ → ℕ → Date) → IsFeasibleUnder net u x → IsAtMostDate (At (pos date)) (x t k)

-- where a walk comes to a firing after it is due, no inputs meet the due dates
abbrev pub LateWalksRefuse : Type 0
LateWalksRefuse = (net : NetLists) → HasEndsInRange net → (due : ℕ → ℕ → Option ℕ) (t k start date d : ℕ) (w : Walk) → IsLateWalk net t k start date w
    → due t k ≡ Some d → d < date → (v : ℕ → ℕ → Date) → InputsMeet net due v → ⊥
