-- The latest dates as a dating, and the floats: by how much the latest date of a firing comes after its earliest (chapter 5).
use Rattle.std.specs.Prelude.{ℕ, ◌<◌, ◌≤◌, ◌↔◌, length, Option}
use Rattle.teg_model.specs.dioid.declared.dates.Date.{Date}
use Rattle.teg_model.specs.dioid.Dates.{IsAtMostDate}
use Rattle.teg_model.specs.teg_net.Nets.{NetLists, HasEndsInRange}
use Rattle.teg_model.specs.Datings.{IsFeasibleUnder, IsLeastUnder}
use Rattle.due_laws.specs.MeetingDueDates.{KeepsDues, InputsMeet}
use Rattle.due_laws.specs.LatestDates.{AreLatestDates}

-- at each firing of the net the first date is at most the second
abbrev pub IsAtMostOn : NetLists → (ℕ → ℕ → Date) → (ℕ → ℕ → Date) → Type 0
IsAtMostOn net x y = (t k : ℕ) → t < length net.transitions → 1 ≤ k → IsAtMostDate (x t k) (y t k)

-- the latest dates are a feasible dating under all inputs that meet the due dates, and keep these
abbrev pub LatestDatesAreFeasible : Type 0
LatestDatesAreFeasible = (net : NetLists) → HasEndsInRange net → (due : ℕ → ℕ → Option ℕ) (v y : ℕ → ℕ → Date) → InputsMeet net due v → AreLatestDates net due y
    → IsFeasibleUnder net v y × KeepsDues net due y

-- no feasible dating that keeps the due dates, under any inputs, has a date after the latest
abbrev pub LatestDatesAreGreatest : Type 0
LatestDatesAreGreatest = (net : NetLists) → HasEndsInRange net → (due : ℕ → ℕ → Option ℕ) (u x y : ℕ → ℕ → Date) → IsFeasibleUnder net u x → KeepsDues net due x
    → AreLatestDates net due y → IsAtMostOn net x y

-- inputs meet the due dates just where no float is negative: the earliest date is at most the latest at each firing
abbrev pub InputsMeetByFloats : Type 0
InputsMeetByFloats = (net : NetLists) → HasEndsInRange net → (due : ℕ → ℕ → Option ℕ) (v x y : ℕ → ℕ → Date) → IsLeastUnder net v x → AreLatestDates net due y
    → (InputsMeet net due v ↔ IsAtMostOn net x y)
