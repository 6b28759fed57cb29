-- What holds of the slopes of the least dating of a live net (chapter 3).
use Rattle.std.specs.Prelude.{ℕ, ℤ, ◌+◌, ◌<◌, ◌≤◌, ◌≡◌, length}
use Rattle.settled_laws.specs.dioid.declared.dates.Date.{Date}
use Rattle.settled_laws.specs.dioid.declared.dates.Date.TheVariants.{Never}
use Rattle.settled_laws.specs.dioid.Dates.{move}
use Rattle.settled_laws.specs.teg_net.declared.entries.InputList.{InputList}
use Rattle.settled_laws.specs.teg_net.Nets.{NetLists, HasEndsInRange, HasListsOfInputs, HasListsByRule}
use Rattle.settled_laws.specs.teg_net.Circuits.{IsLive}
use Rattle.settled_laws.specs.teg_model.Datings.{IsLeastDating}
use Rattle.settled_laws.specs.SettledForms.{SettledForm, StandsFor, step_of_form}
use Rattle.slope_laws.specs.Slopes.{IsEndedTowards, HasSlope}

-- a date is Never only where a list that ends reaches t; where one does, some date is Never, and from then on all dates are
pub record NeverByEndedLists (net : NetLists) (dates : ℕ → Date) (t : ℕ) : Type 0 where
  pub ended : (k : ℕ) → 1 ≤ k → dates k ≡ Never → (l : InputList) × IsEndedTowards net t l
  pub never : (l : InputList) → IsEndedTowards net t l → (k : ℕ) × (1 ≤ k) × (dates k ≡ Never)
  pub on : (k j : ℕ) → 1 ≤ k → dates k ≡ Never → dates (k + j) ≡ Never

-- in a live net the least dates of a transition are Never only by lists that end
abbrev pub NeversComeFromEndedLists : Type 0
NeversComeFromEndedLists = (net : NetLists) → HasEndsInRange net → HasListsOfInputs net → HasListsByRule net → IsLive net → (x : ℕ → ℕ → Date) → IsLeastDating net x
    → (t : ℕ) → t < length net.transitions → NeverByEndedLists net (x t) t

-- where the dates of one transition of a live net repeat past some number, they have its slope
abbrev pub FormsHaveSlopes : Type 0
FormsHaveSlopes = (net : NetLists) → HasEndsInRange net → HasListsOfInputs net → HasListsByRule net → IsLive net → (x : ℕ → ℕ → Date) → IsLeastDating net x
    → (t after period : ℕ) (step : ℤ) → t < length net.transitions → 1 ≤ period
    → ((k : ℕ) → after < k → x t (k + period) ≡ move step (x t k)) → HasSlope net (x t) t after period step

-- the dates of each transition in each settled form of the least dating of a live net have its slope
abbrev pub SettledFormsHaveSlopes : Type 0
SettledFormsHaveSlopes = (net : NetLists) → HasEndsInRange net → HasListsOfInputs net → HasListsByRule net → IsLive net → (x : ℕ → ℕ → Date) → IsLeastDating net x
    → (f : SettledForm) → StandsFor (length net.transitions) f x
    → (t : ℕ) → t < length net.transitions → HasSlope net (x t) t f.after f.period (step_of_form f t)
