-- Runs of dates in memory: the dates stay within a bound, so that none of them is out of range.
use Rattle.std.specs.Prelude.{ℕ, ℤ, pos, ◌+◌, ◌-◌, ◌*◌, ◌%◌, ◌*ℤ◌, ◌<◌, ◌≤◌, List}
use Rattle.dioid.specs.declared.dates.Date.{Date}
use Rattle.dioid.specs.Dates.{move}
use Rattle.teg_model.specs.DateBounds.{IsDateWithin, greatest_least_date}
use Rattle.jump_laws.specs.Runs.{Run, kept_date, kept_step}

-- rows and turns, one after another
pub record RunDates : Type 0 where
  pub runs : List Run

-- a run from these parts
abbrev pub run_of : ℕ → ℕ → ℕ → List (List Date) → List (List ℤ) → Run
run_of first turn turns dates steps = record { first = first; turn = turn; turns = turns; dates = dates; steps = steps }

-- each date of the run is a number from 0 to the bound, or none
pub record IsRoomy (r : Run) : Type 0 where
  pub some : 1 ≤ r.turn
  pub room : (t i j : ℕ) → i < r.turn → j < r.turns → IsDateWithin greatest_least_date (move (pos j *ℤ kept_step r t i) (kept_date r t i))

-- the place in a turn that begins at number `first` of the number k, or of one some turns before or after it
abbrev pub residue_of : ℕ → ℕ → ℕ → ℕ
residue_of first turn k = (k + (turn - first % turn)) % turn

-- by what the date of transition t and number k moves in a turn of the run
abbrev pub step_of : Run → ℕ → ℕ → ℤ
step_of r t k = kept_step r t (residue_of r.first r.turn k)

-- the last number of the run
abbrev pub end_of : Run → ℕ
end_of r = r.first + r.turns * r.turn - 1
