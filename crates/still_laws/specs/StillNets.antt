-- Nets whose circuits take no time (chapter 3, cyclicity of ratio 0).
use Rattle.std.specs.Prelude.{ℕ, ◌<◌, ◌≤◌, ◌≡◌, ◌↔◌, List, length}
use Rattle.bound_laws.specs.teg_net.declared.entries.PlaceId.{PlaceId}
use Rattle.bound_laws.specs.teg_net.Nets.{NetLists, IsNet, HasEndsInRange, IsInput}
use Rattle.bound_laws.specs.teg_net.Circuits.{IsCircuit, IsLive, time_of}
use Rattle.bound_laws.specs.teg_net.GreatestRatios.{IsGreatestRatio, IsAnyPlace}
use Rattle.bound_laws.specs.teg_net.Ratios.{Fraction}
use Rattle.bound_laws.specs.settled_laws.SettledForms.{SettledForm, IsSettledFormOf}
use Rattle.bound_laws.specs.teg_net.Limits.{greatest_hold, most_place_tokens}
use Rattle.bound_laws.specs.Critical.{AllReadyAtZero, EachReachesEach, IsStrong}

-- no circuit takes time
abbrev pub IsStill : NetLists → Type 0
IsStill net = (ps : List PlaceId) → IsCircuit net ps → time_of net ps ≡ 0

-- the greatest ratio of a live net is 0 just where no circuit takes time
abbrev pub StillByRatio : Type 0
StillByRatio = (net : NetLists) (r : Fraction) → IsLive net → IsGreatestRatio net IsAnyPlace r → r.time ≡ 0 ↔ IsStill net

-- then the settled form of a strongly connected net without inputs, live or not, whose tokens are all ready at 0, is periodic from the
-- first firing on, with period 1
abbrev pub StillNetsSettleAtOnce : Type 0
StillNetsSettleAtOnce = (net : NetLists) → HasEndsInRange net → ((t : ℕ) → IsInput net t → ⊥)
    → EachReachesEach net
    → IsStill net → AllReadyAtZero net
    → (f : SettledForm) → IsSettledFormOf net f → (f.after ≡ 0) × (f.period ≡ 1)

-- and each other such net is strong in the sense of the bound, at its greatest ratio, within the limits of all nets
abbrev pub OthersAreStrong : Type 0
OthersAreStrong = (net : NetLists) → IsNet net → IsLive net → ((t : ℕ) → IsInput net t → ⊥)
    → EachReachesEach net
    → AllReadyAtZero net
    → (r : Fraction) → IsGreatestRatio net IsAnyPlace r → 1 ≤ r.time → IsStrong net greatest_hold most_place_tokens r.time r.tokens
