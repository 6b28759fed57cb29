-- A settled form of a part of a net, told of the whole net.
use Rattle.std.specs.Prelude.{ℕ, pos, Bool, false, ◌<◌, ◌≡◌, if◌then◌else◌, List, length, replicate, slice_index, slice_index_or}
use Rattle.dioid.specs.declared.dates.Date.TheVariants.{Early}
use Rattle.settled_laws.specs.SettledForms.{SettledForm, settled_length, row_of, step_of_form}

-- whether transition t is marked
abbrev pub is_marked : List Bool → ℕ → Bool
is_marked marks t = slice_index_or marks t false

-- each marked transition has the row and the step of its new number, and each other one has no dates
pub record IsSpreadOut (marks : List Bool) (new : List ℕ) (f g : SettledForm) : Type 0 where
  pub after : g.after ≡ f.after
  pub period : g.period ≡ f.period
  pub rows_count : length g.rows ≡ length new
  pub steps_count : length g.steps ≡ length new
  pub rows : (t : ℕ) → t < length new → row_of g t ≡ (if is_marked marks t then row_of f (slice_index new t) else replicate (settled_length f) Early)
  pub steps : (t : ℕ) → t < length new → step_of_form g t ≡ (if is_marked marks t then step_of_form f (slice_index new t) else pos 0)
