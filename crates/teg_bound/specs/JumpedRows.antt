-- Working definitions of how runs of the least dating of a net tell its form: so many numbers come again, all moved by one step.
use Rattle.std.specs.Prelude.{ℕ, ℤ, ◌+◌, ◌-◌, ◌<◌, ◌≤◌, ◌≡◌, List, length}
use Rattle.teg_net.specs.Nets.{NetLists}
use Rattle.bound_laws.specs.settled_laws.DateDifferences.{between}
use Rattle.jump_laws.specs.Runs.{Run, date_by_runs}
use Rattle.teg_bound.specs.declared.two_streams.Returned.{Returned}

-- the step leads from each date of the number to that a period later
abbrev pub IsNumberMoved : NetLists → List Run → ℕ → ℤ → ℕ → Type 0
IsNumberMoved net runs period step k =
    (t : ℕ) → t < length net.transitions → between (date_by_runs runs t k) (date_by_runs runs t (k + period)) ≡ step

-- and so at so many numbers past this one
abbrev pub AreNumbersMoved : NetLists → List Run → ℕ → ℤ → ℕ → ℕ → Type 0
AreNumbersMoved net runs period step most from = (k : ℕ) → from < k → k ≤ from + most → IsNumberMoved net runs period step k

-- the step of the first transition's date of the last number in the period
abbrev pub run_step : List Run → ℕ → ℕ → ℤ
run_step runs last period = between (date_by_runs runs 0 last) (date_by_runs runs 0 (last + period))

-- so many numbers up to the last come again first after this period, all moved by this step
pub record AreFirstMoved (net : NetLists) (runs : List Run) (most : ℕ) (found : Returned) : Type 0 where
  pub one : 1 ≤ found.period
  pub few : found.period ≤ 1000000
  pub step : found.step ≡ run_step runs found.last found.period
  pub again : AreNumbersMoved net runs found.period found.step most (found.last - most)
  pub first : (p : ℕ) → 1 ≤ p → p < found.period → AreNumbersMoved net runs p (run_step runs found.last p) most (found.last - most) → ⊥

-- so many numbers past this one come again so, and itself it does not
pub record AreMovedPast (net : NetLists) (runs : List Run) (most : ℕ) (found : Returned) (after : ℕ) : Type 0 where
  pub within : after + most ≤ found.last
  pub moved : AreNumbersMoved net runs found.period found.step most after
  pub first : 1 ≤ after → IsNumberMoved net runs found.period found.step after → ⊥
