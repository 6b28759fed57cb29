-- Working definitions of latest dates in eight bytes each: the date times 4,096, and the number of its first step.
use Rattle.std.specs.Prelude.{ℕ, zero, suc, ◌/◌, ◌%◌, ◌<◌, nat_eq, if◌then◌else◌, ⊤}
use Rattle.teg_net.specs.Limits.{most_places}
use Rattle.date_rows.specs.DateCells.{no_number}
use Rattle.teg_jit.specs.declared.answers.Onward.{Onward}
use Rattle.teg_jit.specs.declared.answers.Onward.TheVariants.{Due, By, Next}
use Rattle.teg_jit.specs.declared.answers.LatestDate.{LatestDate}
use Rattle.teg_jit.specs.declared.answers.LatestDate.TheVariants.{Free, At}

-- first steps have numbers below this
abbrev pub step_numbers : ℕ
step_numbers = 4096

-- dates in cells are below this
abbrev pub most_cell_date : ℕ
most_cell_date = 4503599627370496

-- the first step of a number
abbrev pub step_of_number : ℕ → Onward
step_of_number zero = Due
step_of_number (suc zero) = Next
step_of_number (suc (suc q)) = By (record { index = q })

-- the latest date of eight bytes
abbrev pub latest_of : ℕ → LatestDate
latest_of c = if nat_eq c no_number then Free else At (c / step_numbers) (step_of_number (c % step_numbers))

-- the first step has a number
abbrev pub HasStepNumber : Onward → Type 0
HasStepNumber Due = ⊤
HasStepNumber Next = ⊤
HasStepNumber (By p) = p.index < most_places

-- the date is one that eight bytes hold
abbrev pub FitsCell : LatestDate → Type 0
FitsCell Free = ⊤
FitsCell (At d onward) = d < most_cell_date
