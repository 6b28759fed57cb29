-- Inputs at 0 meet the due dates just where no latest date is before the start of its firing (chapter 5).
use Rattle.std.specs.Prelude.{ℕ, pos, ◌<◌, ◌≤◌, ◌↔◌, length, Option}
use Rattle.teg_model.specs.dioid.declared.dates.Date.{Date}
use Rattle.teg_model.specs.dioid.declared.dates.Date.TheVariants.{At}
use Rattle.teg_model.specs.dioid.Dates.{IsAtMostDate}
use Rattle.teg_model.specs.teg_net.Nets.{NetLists, HasEndsInRange}
use Rattle.teg_model.specs.teg_net.Circuits.{IsLive}
use Rattle.teg_model.specs.teg_net.ReadyDates.{start_date}
use Rattle.due_laws.specs.MeetingDueDates.{InputsMeet, inputs_at_zero}
use Rattle.due_laws.specs.LatestDates.{AreLatestDates}
use Rattle.latest_laws.specs.BackwardSolutions.{AreDueUpTo}

-- no date of a firing up to the number is before the start of the firing: 0, or the ready date of an initial token that it takes
abbrev pub StartsAreKept : NetLists → ℕ → (ℕ → ℕ → Date) → Type 0
StartsAreKept net last y = (t k : ℕ) → t < length net.transitions → 1 ≤ k → k ≤ last → IsAtMostDate (At (pos (start_date net t k))) (y t k)

-- inputs at 0 meet due dates up to a number just where no latest date up to there is before its start
abbrev pub ZeroInputsMeetByStarts : Type 0
ZeroInputsMeetByStarts = (net : NetLists) → HasEndsInRange net → IsLive net → (due : ℕ → ℕ → Option ℕ) (last : ℕ) → AreDueUpTo net due last → (y : ℕ → ℕ → Date) → AreLatestDates net due y
    → (InputsMeet net due inputs_at_zero ↔ StartsAreKept net last y)

-- they meet due dates without an end just where no latest date at all is
abbrev pub ZeroInputsMeetByAllStarts : Type 0
ZeroInputsMeetByAllStarts = (net : NetLists) → HasEndsInRange net → IsLive net → (due : ℕ → ℕ → Option ℕ) (y : ℕ → ℕ → Date) → AreLatestDates net due y
    → (InputsMeet net due inputs_at_zero ↔ ((last : ℕ) → StartsAreKept net last y))
