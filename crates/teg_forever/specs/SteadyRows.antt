-- Working definitions of residuals of steady due series, which the lead of walk times tells.
use Rattle.std.specs.Prelude.{ℕ, ◌<◌, ◌≤◌, true, Option, Some, None, Result, Ok, Err, ⊤}
use Rattle.dioid.specs.ElementAnswers.{Answers}
use Rattle.dioid.specs.declared.algebra.Refused.{Refused}
use Rattle.forever_laws.specs.series_laws.Periodic.{Rising}
use Rattle.forever_laws.specs.series_laws.SeriesForms.{Form, HasValues, size_of, value_at}
use Rattle.series_form.specs.NumberBounds.{IsSeries}
use Rattle.series_ops.specs.declared.gains.Gain.{Gain}
use Rattle.series_ops.specs.Gains.{gain_left, LeftFits}
use Rattle.teg_net.specs.Nets.{NetLists}
use Rattle.forever_laws.specs.SeriesColumns.{IsWalkSeries}

-- a list of walk times, of at most 20,000 numbers, which goes on by a period and a step and never falls
pub record IsWalkList (f : Form) : Type 0 where
  pub some : 0 < f.period
  pub fits : f.period ≤ size_of f
  pub few : size_of f ≤ 20000
  pub rising : Rising (value_at f)

-- the series has the values of the form
abbrev pub HasForm : Form → Gain → Type 0
HasForm f walk = IsSeries walk.series × HasValues walk.series (value_at f)

-- the series is that of the walk times from the input to the transition
abbrev pub IsWalkTo : NetLists → ℕ → ℕ → Gain → Type 0
IsWalkTo net input t walk = IsWalkSeries net input t walk.series

-- the answer is that of the residual of the due series by each such series
abbrev pub AnswersEach : (Gain → Type 0) → Gain → Result Gain Refused → Type 0
AnswersEach IsWalk due answer = (walk : Gain) → IsWalk walk → Answers true (LeftFits walk due) (gain_left walk due) answer

-- so it is, where one is told
abbrev pub IsToldLeft : (Gain → Type 0) → Gain → Result (Option Gain) Refused → Type 0
IsToldLeft IsWalk due (Ok (Some residual)) = AnswersEach IsWalk due (Ok residual)
IsToldLeft IsWalk due (Ok None) = ⊤
IsToldLeft IsWalk due (Err why) = AnswersEach IsWalk due (Err why)
