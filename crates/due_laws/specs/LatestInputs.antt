-- What holds of due dates, of the inputs that meet them and of latest dates (chapter 5).
use Rattle.std.specs.Prelude.{ℕ, ◌≡◌, ◌↔◌, List, Option, Some}
use Rattle.teg_model.specs.dioid.declared.dates.Date.{Date}
use Rattle.teg_model.specs.dioid.declared.dates.Date.TheVariants.{Never}
use Rattle.teg_model.specs.teg_net.Nets.{NetLists, HasEndsInRange}
use Rattle.teg_model.specs.teg_net.Circuits.{IsLive}
use Rattle.teg_model.specs.teg_net.declared.walks.Step.{Step}
use Rattle.teg_model.specs.teg_net.Walks.{Walks}
use Rattle.due_laws.specs.MeetingDueDates.{InputsMeet, AreLatestInputs, inputs_at_zero}
use Rattle.due_laws.specs.LatestDates.{IsLatestDate, AreLatestDates}

-- where inputs at 0 meet the due dates, the latest dates are the latest inputs
abbrev pub LatestDatesAreLatestInputs : Type 0
LatestDatesAreLatestInputs = (net : NetLists) → HasEndsInRange net → IsLive net → (due : ℕ → ℕ → Option ℕ) → InputsMeet net due inputs_at_zero
    → (y : ℕ → ℕ → Date) → AreLatestDates net due y → AreLatestInputs net due y

-- where any inputs meet the due dates, those at 0 do
abbrev pub ZeroInputsMeet : Type 0
ZeroInputsMeet = (net : NetLists) → HasEndsInRange net → IsLive net → (due : ℕ → ℕ → Option ℕ) (v : ℕ → ℕ → Date) → InputsMeet net due v → InputsMeet net due inputs_at_zero

-- no walk leads from firing k of transition t to one that is due
abbrev pub LeadsToNoDue : NetLists → (ℕ → ℕ → Option ℕ) → ℕ → ℕ → Type 0
LeadsToNoDue net due t k = (steps : List Step) (b n d : ℕ) → Walks net t k steps b n → due b n ≡ Some d → ⊥

-- the latest date of a firing is never just where no walk leads to a due firing
abbrev pub FreeWhereNoWalkLeads : Type 0
FreeWhereNoWalkLeads = (net : NetLists) (due : ℕ → ℕ → Option ℕ) (t k : ℕ) (date : Date) → IsLatestDate net due t k date → ((date ≡ Never) ↔ LeadsToNoDue net due t k)
