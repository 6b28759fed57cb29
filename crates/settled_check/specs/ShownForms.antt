-- What the text of settled dates shows.
use Rattle.std.specs.Prelude.{ℕ, ◌<◌, ◌≤◌, ◌≡◌, ◌++◌, ◌∷◌, [], List, codes, length, map}
use Rattle.std.specs.Fmt.{signed_decimal}
use Rattle.std.specs.List.{range_with_len}
use Rattle.teg_model.specs.dioid.declared.dates.Date.{Date}
use Rattle.teg_model.specs.teg_net.Nets.{NetLists}
use Rattle.teg_model.specs.teg_net.Circuits.{IsLive}
use Rattle.teg_model.specs.Datings.{IsLeastDating}
use Rattle.settled_laws.specs.SettledForms.{SettledForm, row_of, step_of_form, settled_date, StandsFor, IsSettledFormOf}
use Rattle.teg_text.specs.Lines.{written}
use Rattle.teg_text.specs.ValueWords.{date_word}
use Rattle.teg_text.specs.WordsOfNames.{name_of_transition, settled_words}
use Rattle.settled_check.specs.declared.settled.ShownSettled.{ShownSettled}

-- the line of the transition of this number, counted from 0: its name, its dates, and its step
abbrev pub form_line : NetLists → SettledForm → ℕ → List (List ℕ)
form_line net f t =
    codes "transition" ∷ name_of_transition net (record { index = t }) ∷ (map date_word (row_of f t) ++ codes "step" ∷ signed_decimal (step_of_form f t) ∷ [])

-- the lines of a form: its number and its period, and a line for each transition
abbrev pub lines_of_form : NetLists → SettledForm → List (List (List ℕ))
lines_of_form net f = settled_words f.after f.period ∷ map (form_line net f) (range_with_len 0 (length net.transitions))

-- the form stands for the least dating, the date of each transition at each number is that of the form, and it is the
-- shortest: no less number and no shorter period would do
pub record TellsLeastDating (net : NetLists) (f : SettledForm) : Type 0 where
  pub stands : (x : ℕ → ℕ → Date) → IsLeastDating net x → StandsFor (length net.transitions) f x
  pub tells : (x : ℕ → ℕ → Date) → IsLeastDating net x → (t k : ℕ) → t < length net.transitions → 1 ≤ k → settled_date f t k ≡ x t k
  pub shortest : IsSettledFormOf net f

-- the net is live, and the text is that of its settled form, of this number and this period
abbrev pub IsShownSettled : NetLists → List ℕ → ShownSettled → Type 0
IsShownSettled net text shown = (f : SettledForm) × (f.after ≡ shown.after) × (f.period ≡ shown.period)
    × (text ≡ written (lines_of_form net f)) × IsLive net × TellsLeastDating net f
