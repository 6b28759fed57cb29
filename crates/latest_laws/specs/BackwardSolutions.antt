-- The latest dates are there, where no firing is due past a number, and the equations that go back from there have no other
-- solution (chapter 5).
use Rattle.std.specs.Prelude.{ℕ, ◌<◌, ◌≤◌, ◌≡◌, length, Option, Some}
use Rattle.teg_model.specs.dioid.declared.dates.Date.{Date}
use Rattle.teg_model.specs.dioid.declared.dates.Date.TheVariants.{Never}
use Rattle.teg_model.specs.teg_net.Nets.{NetLists, HasEndsInRange}
use Rattle.teg_model.specs.teg_net.Circuits.{IsLive}
use Rattle.teg_model.specs.LeastDatings.{AreSameOn}
use Rattle.due_laws.specs.LatestDates.{AreLatestDates}
use Rattle.latest_laws.specs.BackwardEquations.{IsLeastAhead}

-- no firing of the net past this number is due
abbrev pub AreDueUpTo : NetLists → (ℕ → ℕ → Option ℕ) → ℕ → Type 0
AreDueUpTo net due last = (t k d : ℕ) → t < length net.transitions → due t k ≡ Some d → k ≤ last

-- a live net has latest dates for due dates up to a number
abbrev pub LatestDatesExist : Type 0
LatestDatesExist = (net : NetLists) → HasEndsInRange net → IsLive net → (due : ℕ → ℕ → Option ℕ) (last : ℕ) → AreDueUpTo net due last
    → (y : ℕ → ℕ → Date) × AreLatestDates net due y

-- a firing has no second latest date
abbrev pub LatestDatesAreOne : Type 0
LatestDatesAreOne = (net : NetLists) (due : ℕ → ℕ → Option ℕ) (y z : ℕ → ℕ → Date) → AreLatestDates net due y → AreLatestDates net due z → AreSameOn net y z

-- the dates are Never past the number, and each is the least of what is ahead of it
pub record SolveBackwards (net : NetLists) (due : ℕ → ℕ → Option ℕ) (last : ℕ) (y : ℕ → ℕ → Date) : Type 0 where
  pub never : (t k : ℕ) → t < length net.transitions → last < k → y t k ≡ Never
  pub equations : (t k : ℕ) → t < length net.transitions → 1 ≤ k → IsLeastAhead net due y t k (y t k)

-- what solves the backward equations of a live net are the latest dates
abbrev pub SolutionsAreLatestDates : Type 0
SolutionsAreLatestDates = (net : NetLists) → HasEndsInRange net → IsLive net → (due : ℕ → ℕ → Option ℕ) (last : ℕ) (y : ℕ → ℕ → Date) → SolveBackwards net due last y
    → AreLatestDates net due y
