-- A slower net has later dates (chapter 2).
use Rattle.std.specs.Prelude.{ℕ, ◌<◌, ◌≤◌, length}
use Rattle.teg_model.specs.dioid.declared.dates.Date.{Date}
use Rattle.teg_model.specs.dioid.Dates.{IsAtMostDate}
use Rattle.teg_model.specs.teg_net.Nets.{NetLists, HasEndsInRange, IsInput}
use Rattle.teg_model.specs.Datings.{IsLeastUnder}
use Rattle.change_laws.specs.SlowerNets.{HasReadyDatesOfTokens, IsSlowerNet}

-- each least date of a net is at most that of a slower one, also under later releases
abbrev pub SlowerNetsAreLater : Type 0
SlowerNetsAreLater = (net slower : NetLists) → HasEndsInRange slower → HasReadyDatesOfTokens slower → IsSlowerNet net slower → (u v x y : ℕ → ℕ → Date)
    → ((t k : ℕ) → 1 ≤ k → IsInput net t → IsAtMostDate (u t k) (v t k))
    → IsLeastUnder net u x → IsLeastUnder slower v y
    → (t k : ℕ) → t < length net.transitions → 1 ≤ k → IsAtMostDate (x t k) (y t k)
