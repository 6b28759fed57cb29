-- What a list with its period and step is before its canonical form is found.
use Rattle.std.specs.Prelude.{◌≤◌, ◌<◌, ◌-ℤ◌, ℕ, ℤ, FitsSigned}
use Rattle.std.specs.Int.{w128}
use Rattle.series_laws.specs.SeriesForms.{Form, size_of, value_at}
use Rattle.series_laws.specs.Periodic.{Rising}

-- a form that never falls, with a period from 1 to its length, with a list of at most 20,000 values and a step that a number of
-- the code has room for
pub record IsPeriodicList (f : Form) : Type 0 where
  pub positive : 0 < f.period
  pub fits : f.period ≤ size_of f
  pub short : size_of f ≤ 20000
  pub step_fits : FitsSigned w128 f.step
  pub rising : Rising (value_at f)

-- turns within a period, and a jump that the code has room for beside the step
pub record IsJumpOf (f : Form) (turn : ℕ) (jump : ℤ) : Type 0 where
  pub within : turn ≤ f.period
  pub rest : FitsSigned w128 (f.step -ℤ jump)
