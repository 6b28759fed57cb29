-- Rows of dates of which each is the latest of what its firing waits for, and that these are the first of the least dating (chapter 2).
use Rattle.std.specs.Prelude.{ℕ, ◌<◌, ◌≤◌, ◌≡◌, length, All}
use Rattle.dioid.specs.declared.dates.Date.{Date}
use Rattle.dioid.specs.Dates.{IsAtMostDate}
use Rattle.teg_net.specs.Nets.{NetLists, HasEndsInRange, IsInput}
use Rattle.teg_net.specs.Circuits.{IsLive}
use Rattle.teg_model.specs.Datings.{IsLeastUnder, extended_places, available_at}

-- the date is at most z: each token that the firing takes, and at an input its release, is there by z
pub record AreThereBy (net : NetLists) (u x : ℕ → ℕ → Date) (t k : ℕ) (z : Date) : Type 0 where
  pub tokens : All (λ p. p.to.index ≡ t → IsAtMostDate (available_at x p k) z) (extended_places net)
  pub release : IsInput net t → IsAtMostDate (u t k) z

-- d is the latest of what firing k of transition t waits for
pub record IsLatestWait (net : NetLists) (u x : ℕ → ℕ → Date) (t k : ℕ) (d : Date) : Type 0 where
  pub there : AreThereBy net u x t k d
  pub least : (z : Date) → AreThereBy net u x t k z → IsAtMostDate d z

-- the date of firing k of transition t is the latest of what it waits for
abbrev pub IsLatestOfWaits : NetLists → (ℕ → ℕ → Date) → (ℕ → ℕ → Date) → ℕ → ℕ → Type 0
IsLatestOfWaits net u x t k = IsLatestWait net u x t k (x t k)

-- so is each date up to this number
abbrev pub AreTightUpTo : NetLists → (ℕ → ℕ → Date) → (ℕ → ℕ → Date) → ℕ → Type 0
AreTightUpTo net u x last = (t k : ℕ) → t < length net.transitions → 1 ≤ k → k ≤ last → IsLatestOfWaits net u x t k

-- dates that are so up to a number are those of the least dating of a live net up to there, whatever stands behind
abbrev pub FirstRowsAreLeast : Type 0
FirstRowsAreLeast = (net : NetLists) → HasEndsInRange net → IsLive net → (u x y : ℕ → ℕ → Date) (last : ℕ)
    → AreTightUpTo net u x last → IsLeastUnder net u y
    → (t k : ℕ) → t < length net.transitions → 1 ≤ k → k ≤ last → x t k ≡ y t k
