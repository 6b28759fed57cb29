-- Rows that tell a settled form for which no smaller number and no shorter period would do (chapter 3).
use Rattle.std.specs.Prelude.{ℕ, ℤ, pos, ◌+◌, ◌%◌, ◌<◌, ◌≤◌, ◌≡◌, List, length, slice_index_or}
use Rattle.dioid.specs.declared.dates.Date.{Date}
use Rattle.dioid.specs.Dates.{move}
use Rattle.teg_net.specs.Nets.{NetLists}
use Rattle.dating_certificates.specs.CheckedRows.{date_in_rows}
use Rattle.settled_certificates.specs.SettledRows.{AreSettledRows}

-- in the first period past `after` the dates move by the step in so many numbers
abbrev pub MovesBy : (ℕ → Date) → ℕ → ℕ → ℕ → ℤ → Type 0
MovesBy dates after period by step = (k : ℕ) → after < k → k ≤ after + period → dates (k + by) ≡ move step (dates k)

-- those of each of the first `count` transitions do, each by a step of its own
abbrev pub GoOnBy : ℕ → (ℕ → ℕ → Date) → ℕ → ℕ → ℕ → Type 0
GoOnBy count x after period by = (t : ℕ) → t < count → (step : ℤ) × MovesBy (x t) after period by step

-- the number is 0, or the dates at it do not go on by the steps
abbrev pub IsLeastNumber : ℕ → (ℕ → ℕ → Date) → ℕ → ℕ → (ℕ → ℤ) → Type 0
IsLeastNumber count x after period step = 1 ≤ after → ((t : ℕ) → t < count → x t (after + period) ≡ move (step t) (x t after)) → ⊥

-- by no smaller number that divides the period do the dates go on
abbrev pub IsLeastPeriod : ℕ → (ℕ → ℕ → Date) → ℕ → ℕ → Type 0
IsLeastPeriod count x after period = (by : ℕ) → 1 ≤ by → by < period → period % by ≡ 0 → GoOnBy count x after period by → ⊥

-- the rows tell a settled form, and neither its number nor its period can be less
pub record AreShortestRows (net : NetLists) (after period : ℕ) (dates : List Date) (steps : List ℤ) : Type 0 where
  pub settled : AreSettledRows net after period dates steps
  pub least_number : IsLeastNumber (length net.transitions) (date_in_rows (length net.transitions) dates) after period (λ t. slice_index_or steps t (pos 0))
  pub least_period : IsLeastPeriod (length net.transitions) (date_in_rows (length net.transitions) dates) after period
