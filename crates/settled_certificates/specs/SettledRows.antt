-- Rows of a least dating that tell, with a period and steps, how it goes on for ever (chapter 3).
use Rattle.std.specs.Prelude.{ℕ, ℤ, pos, ◌+◌, ◌<◌, ◌≤◌, ◌≡◌, ◌⊎◌, List, map, length, slice_index_or}
use Rattle.std.specs.List.{range_with_len}
use Rattle.dioid.specs.declared.dates.Date.{Date}
use Rattle.dioid.specs.declared.dates.Date.TheVariants.{Early, Never}
use Rattle.teg_net.specs.Nets.{NetLists}
use Rattle.teg_model.specs.Datings.{IsLeastDating, listed_releases}
use Rattle.settled_laws.specs.SettledForms.{SettledForm, settled_date, StandsFor}
use Rattle.dating_certificates.specs.CheckedRows.{AreRowsOf, AreTightRows, AreFirstRows, date_in_rows}
use Rattle.settled_certificates.specs.SettledWindows.{MovesInWindow}

-- the form that rows of this many dates tell: their dates up to `after + period`, and a step for each transition
abbrev pub form_by_rows : ℕ → List Date → ℕ → ℕ → List ℤ → SettledForm
form_by_rows width dates after period steps = record {
  after = after;
  period = period;
  rows = map (λ t. map (date_in_rows width dates t) (range_with_len 1 (after + period))) (range_with_len 0 width);
  steps = steps;
}

-- the dates are the first rows of the least dating; the form that they tell stands for it, and its date of each transition at each
-- number is that of the form
pub record SettlesAs (net : NetLists) (after period : ℕ) (dates : List Date) (steps : List ℤ) : Type 0 where
  pub first : AreFirstRows net dates
  pub stands : (x : ℕ → ℕ → Date) → IsLeastDating net x
      → StandsFor (length net.transitions) (form_by_rows (length net.transitions) dates after period steps) x
  pub tells : (x : ℕ → ℕ → Date) → IsLeastDating net x → (t k : ℕ) → t < length net.transitions → 1 ≤ k
      → settled_date (form_by_rows (length net.transitions) dates after period steps) t k ≡ x t k

-- the step of a transition whose date right past `after` is never or early is 0
abbrev pub IsStillAfter : ℕ → List Date → ℕ → List ℤ → Type 0
IsStillAfter width dates after steps =
    (t : ℕ) → t < width → (date_in_rows width dates t (after + 1) ≡ Never) ⊎ (date_in_rows width dates t (after + 1) ≡ Early) → slice_index_or steps t (pos 0) ≡ pos 0

-- the dates are whole rows, as many as memory may hold, and tight; past `after` and as far as they go they move by the steps in
-- each period, with room for the tokens, and the releases for ever
pub record AreSettledRows (net : NetLists) (after period : ℕ) (dates : List Date) (steps : List ℤ) : Type 0 where
  pub rows : ℕ
  pub whole : AreRowsOf net dates rows
  pub few : rows ≤ 100000000000000000
  pub tight : AreTightRows net dates
  pub steps_are : length steps ≡ length net.transitions
  pub moves : MovesInWindow net (listed_releases net) (date_in_rows (length net.transitions) dates) after period rows (λ t. slice_index_or steps t (pos 0))
  pub still : IsStillAfter (length net.transitions) dates after steps
