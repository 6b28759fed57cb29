-- Times of walks from an input by those from the ends of its places (chapter 5).
use Rattle.std.specs.Prelude.{ℕ, pos, ◌-◌, ◌<◌, ◌≤◌, ◌≡◌, ◌≢◌, ◌⊎◌, ◌==◌, [], length, map, nat_le, if◌then◌else◌}
use Rattle.dioid.specs.declared.dates.Date.{Date}
use Rattle.dioid.specs.declared.dates.Date.TheVariants.{Early, At}
use Rattle.dioid.specs.Dates.{IsAtMostDate, delayed}
use Rattle.teg_net.specs.declared.entries.Place.{Place}
use Rattle.teg_net.specs.declared.entries.PlaceId.{PlaceId}
use Rattle.teg_net.specs.Circuits.{place_at, from_of, IsLive}
use Rattle.teg_net.specs.Nets.{NetLists, IsNet, IsInput, lists_of}
use Rattle.walk_times.specs.Transfers.{IsGreatestWalkTime, AreWalkTimes}

-- a transition of the net that is no input
abbrev pub IsInner : NetLists → ℕ → Type 0
IsInner net t = (t < length net.transitions) × (IsInput net t → ⊥)

-- the greatest times of walks from the first firing of e to each firing of each transition that is no input
abbrev pub AreTimesFromEnd : NetLists → ℕ → (ℕ → ℕ → Date) → Type 0
AreTimesFromEnd net e z = (t k : ℕ) → IsInner net t → 1 ≤ k → IsGreatestWalkTime net e t k (z t k)

-- the time to firing k of t of a walk that begins with the place, by the times z from each end: as many numbers on as the place has
-- tokens, and so much later as it is held
abbrev pub date_by : (ℕ → ℕ → ℕ → Date) → Place → ℕ → ℕ → Date
date_by z p t k = if nat_le k p.tokens then Early else delayed p.hold (z p.to.index t (k - p.tokens))

-- the place leaves the transition
abbrev pub Leaves : NetLists → ℕ → PlaceId → Type 0
Leaves net u p = (p.index < length net.places) × (from_of net p ≡ u)

-- d is the latest of these dates over the places that leave u, Early where there is none
pub record IsLatestBy (net : NetLists) (u : ℕ) (z : ℕ → ℕ → ℕ → Date) (t k : ℕ) (d : Date) : Type 0 where
  pub reached : (d ≡ Early) ⊎ ((p : PlaceId) × Leaves net u p × (d ≡ date_by z (place_at net p) t k))
  pub latest : (p : PlaceId) → Leaves net u p → IsAtMostDate (date_by z (place_at net p) t k) d

-- x has these dates at each transition that is no input, 0 at the input u, and no date at other inputs
pub record AreLatestBy (net : NetLists) (u : ℕ) (z : ℕ → ℕ → ℕ → Date) (x : ℕ → ℕ → Date) : Type 0 where
  pub own : (k : ℕ) → 1 ≤ k → x u k ≡ At (pos 0)
  pub others : (t k : ℕ) → IsInput net t → t ≢ u → 1 ≤ k → x t k ≡ Early
  pub inner : (t k : ℕ) → IsInner net t → 1 ≤ k → IsLatestBy net u z t k (x t k)

-- z has for the end of each place that leaves u the times of walks from there
abbrev pub AreTimesFromEnds : NetLists → ℕ → (ℕ → ℕ → ℕ → Date) → Type 0
AreTimesFromEnds net u z = (p : PlaceId) → Leaves net u p → AreTimesFromEnd net (place_at net p).to.index (z (place_at net p).to.index)

-- the times of walks from an input are the latest by its places
abbrev pub WalksGoByEnds : Type 0
WalksGoByEnds = (net : NetLists) → IsNet net → (u : ℕ) → IsInput net u → (z : ℕ → ℕ → ℕ → Date) → AreTimesFromEnds net u z
    → (x : ℕ → ℕ → Date) → AreLatestBy net u z x → AreWalkTimes net u x

-- ---- the times from one end

-- the place without ready dates; where it leaves u it leads to e, is not held and has no tokens
abbrev pub led_to : ℕ → ℕ → Place → Place
led_to u e p = if p.from.index == u
    then record { name = p.name; from = p.from; to = record { index = e }; hold = 0; tokens = 0; ready = [] }
    else record { name = p.name; from = p.from; to = p.to; hold = p.hold; tokens = p.tokens; ready = [] }

-- the net with these places, and no input lists
abbrev pub net_led_to : NetLists → ℕ → ℕ → NetLists
net_led_to net u e = lists_of net.transitions (map (led_to u e) net.places) []

-- walks from an input whose places all lead to e at once take the times of those from e
abbrev pub EndsAreAsked : Type 0
EndsAreAsked = (net : NetLists) → IsNet net → (u e : ℕ) → IsInput net u → IsInner net e → (p : PlaceId) → Leaves net u p
    → (x : ℕ → ℕ → Date) → AreWalkTimes (net_led_to net u e) u x → AreTimesFromEnd net e x

-- it is a net, and live where the whole net is
abbrev pub LedNetsStand : Type 0
LedNetsStand = (net : NetLists) → IsNet net → (u e : ℕ) → IsInput net u → IsInner net e
    → IsNet (net_led_to net u e) × (IsLive net → IsLive (net_led_to net u e))
