-- Dates kept as runs of turns: one turn of dates, and by what each moves (chapter 3).
use Rattle.std.specs.Prelude.{ℕ, ℤ, pos, ◌+◌, ◌-◌, ◌*◌, ◌*ℤ◌, ◌/◌, ◌%◌, ◌<◌, ◌≤◌, ◌≡◌, List, [], ◌∷◌}
use Rattle.std.specs.Prelude.{All, Any, slice_index_or, nat_le, nat_lt, if◌then◌else◌}
use Rattle.dioid.specs.declared.dates.Date.{Date}
use Rattle.dioid.specs.declared.dates.Date.TheVariants.{Early}
use Rattle.dioid.specs.Dates.{IsAtMostDate, move}
use Rattle.jump_laws.specs.Jumps.{MovesTo}

-- so many turns from the number `first` on; of each transition the dates of the first turn, and by what each moves in a turn.
-- Rows that were made are a run of one turn
pub record Run : Type 0 where
  pub first : ℕ
  pub turn : ℕ
  pub turns : ℕ
  pub dates : List (List Date)
  pub steps : List (List ℤ)

-- number k is one of the run
pub record IsInRun (r : Run) (k : ℕ) : Type 0 where
  pub from : r.first ≤ k
  pub to : k < r.first + r.turns * r.turn

-- the date of transition t at this place of the first turn, counted from 0
abbrev pub kept_date : Run → ℕ → ℕ → Date
kept_date r t i = slice_index_or (slice_index_or r.dates t []) i Early

-- and its step in each turn
abbrev pub kept_step : Run → ℕ → ℕ → ℤ
kept_step r t i = slice_index_or (slice_index_or r.steps t []) i (pos 0)

-- the date of transition t and number k, one of the run
abbrev pub run_date : Run → ℕ → ℕ → Date
run_date r t k = move (pos ((k - r.first) / r.turn) *ℤ kept_step r t ((k - r.first) % r.turn)) (kept_date r t ((k - r.first) % r.turn))

-- the run has the dates of x in its first turn, and its steps are those by which they move in each of its turns
pub record IsRunOf (count : ℕ) (x : ℕ → ℕ → Date) (r : Run) : Type 0 where
  pub at_least_one : 1 ≤ r.turn
  pub dates : (t i : ℕ) → t < count → i < r.turn → kept_date r t i ≡ x t (r.first + i)
  pub moves : (t i j : ℕ) → t < count → i < r.turn → j < r.turns
      → x t ((r.first + i) + j * r.turn) ≡ move (pos j *ℤ kept_step r t i) (x t (r.first + i))

-- it then tells each date of its numbers
abbrev pub RunsTellDates : Type 0
RunsTellDates = (count : ℕ) (x : ℕ → ℕ → Date) (r : Run) → IsRunOf count x r
    → (t k : ℕ) → t < count → IsInRun r k → run_date r t k ≡ x t k

-- the dates of the first turn, and the steps of its numbers
pub record IsReadOff (count : ℕ) (x : ℕ → ℕ → Date) (step : ℕ → ℕ → ℤ) (r : Run) : Type 0 where
  pub at_least_one : 1 ≤ r.turn
  pub dates : (t i : ℕ) → t < count → i < r.turn → kept_date r t i ≡ x t (r.first + i)
  pub steps : (t i : ℕ) → t < count → i < r.turn → kept_step r t i ≡ step t (r.first + i)

-- what is read off dates that move by the steps past a number before the run and up to its end is a run of them
abbrev pub JumpsAreRuns : Type 0
JumpsAreRuns = (count : ℕ) (x : ℕ → ℕ → Date) (step : ℕ → ℕ → ℤ) (r : Run) → IsReadOff count x step r
    → ((t k : ℕ) → t < count → step t (k + r.turn) ≡ step t k)
    → (after last : ℕ) → after < r.first → r.first + r.turns * r.turn ≤ last + 1
    → ((t : ℕ) → t < count → MovesTo (x t) after r.turn last (step t))
    → IsRunOf count x r

-- ---- rows and runs, one after another

-- the date by the run where it has the number, and else the other one
abbrev pub date_by_run : Run → Date → ℕ → ℕ → Date
date_by_run r other t k = if nat_le r.first k then (if nat_lt k (r.first + r.turns * r.turn) then run_date r t k else other) else other

-- the date of transition t and number k by the first of the runs that has the number
abbrev pub date_by_runs : List Run → ℕ → ℕ → Date
date_by_runs [] t k = Early
date_by_runs (r ∷ rs) t k = date_by_run r (date_by_runs rs t k) t k

-- runs of x of which some has each number up to `last`
pub record AreRunsUpTo (count : ℕ) (x : ℕ → ℕ → Date) (last : ℕ) (rs : List Run) : Type 0 where
  pub runs : All (IsRunOf count x) rs
  pub cover : (k : ℕ) → 1 ≤ k → k ≤ last → Any (λ r. IsInRun r k) rs

-- they tell each date up to that number
abbrev pub RunRowsTellDates : Type 0
RunRowsTellDates = (count : ℕ) (x : ℕ → ℕ → Date) (last : ℕ) (rs : List Run) → AreRunsUpTo count x last rs
    → (t k : ℕ) → t < count → 1 ≤ k → k ≤ last → date_by_runs rs t k ≡ x t k

-- ---- where a form begins

-- within dates that move by turns, what goes on by a period and a step at two numbers a turn apart does so at all that are whole
-- turns from them
abbrev pub FormsReachBack : Type 0
FormsReachBack = (dates : ℕ → Date) (after turn last : ℕ) (step : ℕ → ℤ) → ((k : ℕ) → step (k + turn) ≡ step k) → MovesTo dates after turn last step
    → (period : ℕ) (by : ℤ) (k m : ℕ) → after < k → k + (m + 1) * turn + period ≤ last
    → dates (k + m * turn + period) ≡ move by (dates (k + m * turn))
    → dates (k + (m + 1) * turn + period) ≡ move by (dates (k + (m + 1) * turn))
    → (j : ℕ) → k + j * turn + period ≤ last → dates (k + j * turn + period) ≡ move by (dates (k + j * turn))

-- ---- due dates

-- dates that move by turns move by so many turns at once, by as many steps
abbrev pub TurnsAreGathered : Type 0
TurnsAreGathered = (dates : ℕ → Date) (after turn last : ℕ) (step : ℕ → ℤ) → ((k : ℕ) → step (k + turn) ≡ step k) → MovesTo dates after turn last step
    → (many : ℕ) → MovesTo dates after (many * turn) last (λ k. pos many *ℤ step k)

-- where dates and due dates move by turns of one length, what is in time in two turns is so in each turn between
abbrev pub RunsKeepDues : Type 0
RunsKeepDues = (dates due : ℕ → Date) (after turn last : ℕ) (step gap : ℕ → ℤ)
    → ((k : ℕ) → step (k + turn) ≡ step k) → ((k : ℕ) → gap (k + turn) ≡ gap k) → MovesTo dates after turn last step → MovesTo due after turn last gap
    → (k q : ℕ) → after < k → k + q * turn ≤ last → IsAtMostDate (dates k) (due k) → IsAtMostDate (dates (k + q * turn)) (due (k + q * turn))
    → (j : ℕ) → j ≤ q → IsAtMostDate (dates (k + j * turn)) (due (k + j * turn))
