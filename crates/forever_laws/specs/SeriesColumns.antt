-- The series of walk times and of due dates: shift k stands for firing k + 1 (chapter 5).
use Rattle.std.specs.Prelude.{ℕ, ℤ, pos, ◌+◌, ◌<◌, ◌≤◌, ◌≡◌, List, Some, length, map, slice_get}
use Rattle.walk_times.specs.dioid.declared.algebra.Residuated.{Ghosts as ResiduatedOf}
use Rattle.walk_times.specs.dioid.declared.dates.Date.{Date}
use Rattle.walk_times.specs.dioid.declared.dates.Date.TheVariants.{At}
use Rattle.walk_times.specs.dioid_matrix.Residuals.{meet_below, lefts}
use Rattle.walk_times.specs.series_laws.Periodic.{Rising}
use Rattle.walk_times.specs.series_laws.SeriesForms.{Form, form_with, value_at, IsCanonical, HasValues}
use Rattle.walk_times.specs.series_ops.declared.gains.Gain.{Gain}
use Rattle.walk_times.specs.series_ops.Gains.{gain_left, gain_meet, LeftFits, MeetFits}
use Rattle.teg_net.specs.Nets.{NetLists}
use Rattle.walk_times.specs.teg_model.Datings.{as_date}
use Rattle.walk_times.specs.Transfers.{IsGreatestWalkTime}
use Rattle.walk_times.specs.periodic_laws.Equations.{gains}
use Rattle.endless_due.specs.declared.row.EndlessRow.{EndlessRow}
use Rattle.endless_due.specs.EndlessRows.{row_due}

-- the values are the greatest times of walks from the first firing of the input, Early where there is none
pub record IsWalkSeries (net : NetLists) (input t : ℕ) (h : Form) : Type 0 where
  pub canonical : IsCanonical h
  pub times : (k : ℕ) → IsGreatestWalkTime net input t (k + 1) (value_at h k)

-- the date at which the row makes firing k + 1 due
abbrev pub due_date_at : EndlessRow → ℕ → Date
due_date_at r k = as_date (row_due r (k + 1))

-- the values are the due dates of the row
pub record IsDueSeries (r : EndlessRow) (d : Form) : Type 0 where
  pub canonical : IsCanonical d
  pub dates : HasValues d (due_date_at r)

-- a column of walk series from the input to the transitions of the rows, and a column of their due series
pub record AreSeriesColumns (net : NetLists) (input : ℕ) (rows : List EndlessRow) (walks dues : ℕ → Gain) : Type 0 where
  pub walk_series : (i : ℕ) (r : EndlessRow) → slice_get rows i ≡ Some r → IsWalkSeries net input r.transition.index (walks i).series
  pub due_series : (i : ℕ) (r : EndlessRow) → slice_get rows i ≡ Some r → IsDueSeries r (dues i).series

-- the residuals of gains, in the words of their implementation
abbrev pub gain_residuals : ResiduatedOf Gain
gain_residuals = record { left = gain_left; meet = gain_meet; left_fits = LeftFits; meet_fits = MeetFits }

-- the meet of the residuals of the dues by the walks, over so many rows
abbrev pub residual_over : ℕ → (ℕ → Gain) → (ℕ → Gain) → Gain
residual_over count walks dues = meet_below gain_residuals (lefts gains gain_residuals walks dues) count

-- a list, a period and a step of which a series can be made: its function never falls; and each value of the function is one of these
pub record IsSeriesList (values : List Date) (period : ℕ) (step : ℤ) (IsValue : ℕ → Date → Type 0) : Type 0 where
  pub some : 0 < period
  pub fits : period ≤ length values
  pub rising : Rising (value_at (form_with values period step))
  pub each : (k : ℕ) → IsValue k (value_at (form_with values period step) k)

-- the listed dates as dates
abbrev pub listed_dates : EndlessRow → List Date
listed_dates r = map (λ d. At (pos d)) r.dates
