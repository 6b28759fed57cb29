-- How soon a net becomes periodic, and with which period (chapter 3, cyclicity).
use Rattle.std.specs.Prelude.{ℕ, ◌≤◌, length}
use Rattle.std.specs.Int.{◌∣◌}
use Rattle.settled_laws.specs.dioid.declared.dates.Date.{Date}
use Rattle.settled_laws.specs.teg_net.Nets.{NetLists}
use Rattle.settled_laws.specs.teg_model.Datings.{IsLeastDating}
use Rattle.settled_laws.specs.SettledForms.{SettledForm, IsShortestForm}
use Rattle.bound_laws.specs.Critical.{IsStrong, IsCommon, bound_of}

-- the shortest form of the least dating begins within the bound, and its period divides each common multiple
abbrev pub FormsKeepTheBound : Type 0
FormsKeepTheBound = (net : NetLists) (hold tokens a b : ℕ) → IsStrong net hold tokens a b → (x : ℕ → ℕ → Date) → IsLeastDating net x
    → (f : SettledForm) → IsShortestForm (length net.transitions) f x
    → (f.after ≤ bound_of (length net.transitions) hold tokens a b) × ((L : ℕ) → 1 ≤ L → IsCommon net a b L → f.period ∣ L)
