-- Working definitions of the dates that a settled form tells of its transitions.
use Rattle.std.specs.Prelude.{ℕ, ◌≡◌}
use Rattle.forever_laws.specs.series_laws.SeriesForms.{Form, form_with}
use Rattle.forever_laws.specs.settled_laws.SettledForms.{SettledForm, row_of, step_of_form}

-- the dates of a transition, which go on by the period and its step
abbrev pub told_form : SettledForm → ℕ → Form
told_form f t = form_with (row_of f t) f.period (step_of_form f t)

-- the form has the same dates and the same step of both transitions
pub record HaveSameWalks (f : SettledForm) (s t : ℕ) : Type 0 where
  pub row : row_of f s ≡ row_of f t
  pub step : step_of_form f s ≡ step_of_form f t
