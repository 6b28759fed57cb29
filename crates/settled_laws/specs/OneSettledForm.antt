-- What holds of settled forms of any dating (chapter 3).
use Rattle.std.specs.Prelude.{ℕ, ◌<◌, ◌≤◌, ◌≡◌}
use Rattle.teg_model.specs.dioid.declared.dates.Date.{Date}
use Rattle.teg_model.specs.teg_net.Nets.{NetLists}
use Rattle.settled_laws.specs.SettledForms.{SettledForm, settled_length, settled_date, StandsFor, IsShortestForm, IsSettlingLength, NeverFalls, IsSettledFormOf, NetSettlesPast}

-- a dating that has a settled form has one whose number and period are both least, and its length is the settling length
abbrev pub ShortestFormsExist : Type 0
ShortestFormsExist = (count : ℕ) (x : ℕ → ℕ → Date) (g : SettledForm) → StandsFor count g x
    → (f : SettledForm) × IsShortestForm count f x × IsSettlingLength count x (settled_length f)

-- a dating that never falls has one shortest form
abbrev pub ShortestFormsAreOne : Type 0
ShortestFormsAreOne = (count : ℕ) (x : ℕ → ℕ → Date) → NeverFalls count x → (f g : SettledForm) → IsShortestForm count f x → IsShortestForm count g x → f ≡ g

-- a form tells every date of the dating that it stands for
abbrev pub FormsTellDates : Type 0
FormsTellDates = (count : ℕ) (f : SettledForm) (x : ℕ → ℕ → Date) → StandsFor count f x
    → (t k : ℕ) → t < count → 1 ≤ k → settled_date f t k ≡ x t k

-- a net has one shortest settled form, whichever least dating tells it
abbrev pub SettledFormsAreOne : Type 0
SettledFormsAreOne = (net : NetLists) (f g : SettledForm) → IsSettledFormOf net f → IsSettledFormOf net g → f ≡ g

-- where each settled form of a net is longer than a limit, so is its shortest one
abbrev pub LimitsAreTold : Type 0
LimitsAreTold = (net : NetLists) (limit : ℕ) (f : SettledForm) → IsSettledFormOf net f → NetSettlesPast net limit → limit < settled_length f
