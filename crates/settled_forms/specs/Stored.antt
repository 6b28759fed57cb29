-- Settled forms in memory, of which several transitions may share a row and a step.
use Rattle.std.specs.Prelude.{ℕ, ℤ, pos, ◌<◌, ◌≡◌, List, [], All, length, map, slice_index_or}
use Rattle.dioid.specs.declared.dates.Date.{Date}
use Rattle.settled_laws.specs.SettledForms.{SettledForm}
use Rattle.settled_forms.specs.KeptForms.{IsFormKept}

-- the form with this number and this period in which each transition has the row and the step of the number that is its own
abbrev pub stored_form : ℕ → ℕ → List (List Date) → List ℤ → List ℕ → SettledForm
stored_form after period rows steps own = record {
  after = after;
  period = period;
  rows = map (λ i. slice_index_or rows i []) own;
  steps = map (λ i. slice_index_or steps i (pos 0)) own;
}

-- the form that is stored keeps the limits of a form in memory, and there are such rows, and a step for each
pub record IsStored (after period : ℕ) (rows : List (List Date)) (steps : List ℤ) (own : List ℕ) : Type 0 where
  pub kept : IsFormKept (stored_form after period rows steps own)
  pub rows_in : All (λ i. i < length rows) own
  pub steps_count : length steps ≡ length rows
