-- What each settled form in memory keeps.
use Rattle.std.specs.Prelude.{ℕ, ◌<◌, ◌≤◌, length}
use Rattle.teg_net.specs.Limits.{most_transitions, greatest_firing_number, most_rows}
use Rattle.settled_laws.specs.teg_model.DateBounds.{IsDateWithin, greatest_least_date}
use Rattle.settled_laws.specs.SettledForms.{SettledForm, settled_length, settled_date, HasSizes}

-- the form has as many dates and a step for each of a net's transitions; and no date that it tells, up to the greatest number, is
-- below 0 or past what no least date of a net exceeds
pub record IsFormKept (f : SettledForm) : Type 0 where
  pub sizes : HasSizes (length f.rows) f
  pub few : length f.rows ≤ most_transitions
  pub short : settled_length f ≤ most_rows
  pub within : (t k : ℕ) → t < length f.rows → 1 ≤ k → k ≤ greatest_firing_number → IsDateWithin greatest_least_date (settled_date f t k)
