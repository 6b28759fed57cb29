-- The greatest delay left up to before a number.
use Rattle.std.specs.Prelude.{ℕ, ◌<◌, ◌≤◌}
use Rattle.teg_timetable.specs.Spreads.{LeftDelays, delay_left}
use Rattle.delay_laws.specs.DelayOutcomes.{HasDelayPast}

-- the same up to before a number
pub record IsTopUpTo (s : LeftDelays) (i upto top : ℕ) : Type 0 where
  pub greatest : (k : ℕ) → s.form.after < k → k < upto → delay_left s i k ≤ top
  pub attained : HasDelayPast (delay_left s) s.form.after s.form.period top i
