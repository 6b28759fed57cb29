-- What holds of the dates past the bound.
use Rattle.std.specs.Prelude.{ℕ, zero, suc, pos, ◌+◌, ◌*◌, ◌<◌, ◌≤◌, ◌≡◌, List, length}
use Rattle.settled_laws.specs.dioid.declared.dates.Date.TheVariants.{At}
use Rattle.settled_laws.specs.teg_net.declared.entries.PlaceId.{PlaceId}
use Rattle.settled_laws.specs.teg_net.Nets.{HasEndsInRange, IsInput}
use Rattle.settled_laws.specs.teg_net.Circuits.{IsCircuit, IsLive, time_of}
use Rattle.settled_laws.specs.dioid.declared.dates.Date.{Date}
use Rattle.settled_laws.specs.dioid.Dates.{delayed}
use Rattle.settled_laws.specs.teg_net.Nets.{NetLists}
use Rattle.settled_laws.specs.teg_model.Datings.{IsLeastDating}
use Rattle.bound_laws.specs.Critical.{AllReadyAtZero, EachReachesEach, IsStrong, IsCommon, bound_of}

-- past the bound each date comes S after that of L firings before, for each common multiple L and its step S
abbrev pub DatesGoOnPastTheBound : Type 0
DatesGoOnPastTheBound = (net : NetLists) (hold tokens a b : ℕ) → IsStrong net hold tokens a b → (x : ℕ → ℕ → Date) → IsLeastDating net x
    → (L S : ℕ) → IsCommon net a b L → b * S ≡ a * L
    → (t k : ℕ) → t < length net.transitions → bound_of (length net.transitions) hold tokens a b < k → x t (k + L) ≡ delayed S (x t k)

-- the product of the numbers from 1 to n
abbrev pub factorial : ℕ → ℕ
factorial zero = 1
factorial (suc n) = suc n * factorial n

-- a common multiple that needs no choice: the factorial of the most tokens that a circuit can have
abbrev pub FactorialsAreCommon : Type 0
FactorialsAreCommon = (net : NetLists) (hold tokens a b : ℕ) → IsStrong net hold tokens a b → IsCommon net a b (factorial (length net.transitions * tokens))

-- each common multiple is that of a whole step
abbrev pub StepsAreWhole : Type 0
StepsAreWhole = (net : NetLists) (hold tokens a b L : ℕ) → IsStrong net hold tokens a b → IsCommon net a b L → (S : ℕ) × (b * S ≡ a * L)

-- where no circuit takes time, all dates are 0
abbrev pub StillNetsStayAtZero : Type 0
StillNetsStayAtZero = (net : NetLists) → HasEndsInRange net → IsLive net → ((t : ℕ) → IsInput net t → ⊥)
    → EachReachesEach net
    → ((ps : List PlaceId) → IsCircuit net ps → time_of net ps ≡ 0) → AllReadyAtZero net
    → (x : ℕ → ℕ → Date) → IsLeastDating net x → (t k : ℕ) → t < length net.transitions → 1 ≤ k → x t k ≡ At (pos 0)
