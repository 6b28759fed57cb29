-- Working definitions of heights of transitions, where the reduced time of one place is raised by its gap (chapter 3).
use Rattle.std.specs.Prelude.{ℕ, ℤ, pos, ◌+◌, ◌*◌, ◌<◌, ◌≤◌, ◌≡◌, ◌==◌, ◌↔◌, if◌then◌else◌, Bool, List, length, All, Contains, sum_by, slice_index_or, slice_set}
use Rattle.teg_net.specs.declared.entries.PlaceId.{PlaceId}
use Rattle.teg_net.specs.declared.entries.Place.{Place}
use Rattle.teg_net.specs.Limits.{greatest_hold, most_place_tokens, greatest_checked_ratio, most_circuit_tokens}
use Rattle.teg_net.specs.Nets.{NetLists, IsNet}
use Rattle.teg_net.specs.Circuits.{place_at, IsPathBetween, IsCircuit, time_of, tokens_of}
use Rattle.teg_net.specs.GreatestRatios.{IsGreatestRatio, IsAnyPlace}
use Rattle.teg_critical.specs.declared.heights.Raised.{Raised}
use Rattle.teg_critical.specs.Gaps.{IsGap}
use Rattle.teg_critical.specs.Losses.{most_gap}
use Rattle.teg_critical.specs.Hops.{IsUsable}

-- what no height passes
abbrev pub most_height : ℕ
most_height = 600000000000000000

-- what no gain and no cost of a place passes
abbrev pub most_gain : ℕ
most_gain = 500000000000000000

-- what a place of this number adds to the height of its start: the ratio's tokens times its hold, and the rise at the one place
abbrev pub gain_of_place : Raised → ℕ → Place → ℕ
gain_of_place raised number p = p.hold * raised.ratio.tokens + (if number == raised.place.index then raised.gap else 0)

-- and what it takes off: the ratio's time times its tokens
abbrev pub cost_of_place : Raised → Place → ℕ
cost_of_place raised p = raised.ratio.time * p.tokens

-- the same of a place of the net
abbrev pub gain_by : NetLists → Raised → PlaceId → ℕ
gain_by net raised q = gain_of_place raised q.index (place_at net q)

abbrev pub cost_by : NetLists → Raised → PlaceId → ℕ
cost_by net raised q = cost_of_place raised (place_at net q)

-- the height of the transition
abbrev pub height_at : List ℕ → ℕ → ℕ
height_at hs t = slice_index_or hs t 0

-- the rise is the gap of the place at the greatest ratio of the net, and all keep their limits
pub record CanRaise (net : NetLists) (raised : Raised) : Type 0 where
  pub in_range : raised.place.index < length net.places
  pub rules : IsNet net
  pub greatest : IsGreatestRatio net IsAnyPlace raised.ratio
  pub time : raised.ratio.time ≤ greatest_checked_ratio
  pub tokens : raised.ratio.tokens ≤ most_circuit_tokens
  pub gap : IsGap net raised.ratio raised.place raised.gap
  pub low : raised.gap ≤ most_gap

-- a path that ends at the transition gains so much more than it costs
pub record IsHeight (net : NetLists) (raised : Raised) (t h : ℕ) : Type 0 where
  pub start : ℕ
  pub places : List PlaceId
  pub path : IsPathBetween net start places t
  pub is : sum_by (gain_by net raised) places ≡ h + sum_by (cost_by net raised) places

-- each height is that of a path
pub record AreHeights (net : NetLists) (raised : Raised) (hs : List ℕ) : Type 0 where
  pub count : length hs ≡ length net.transitions
  pub each : (t : ℕ) → t < length net.transitions → IsHeight net raised t (height_at hs t)

-- the place has its ends among these heights, and its numbers, those of the rise and the heights are small
pub record CanPass (raised : Raised) (p : Place) (hs : List ℕ) : Type 0 where
  pub from : p.from.index < length hs
  pub to : p.to.index < length hs
  pub time : raised.ratio.time ≤ greatest_checked_ratio
  pub tokens : raised.ratio.tokens ≤ most_circuit_tokens
  pub gap : raised.gap ≤ most_gap
  pub hold : p.hold ≤ greatest_hold
  pub few : p.tokens ≤ most_place_tokens
  pub small : All (λ h. h ≤ most_height) hs

-- the place does not lift its end
abbrev pub IsKeptBy : Raised → ℕ → Place → List ℕ → Type 0
IsKeptBy raised number p hs = height_at hs p.from.index + gain_of_place raised number p ≤ height_at hs p.to.index + cost_of_place raised p

-- the place lifts its end, to what it makes of the height of its start
pub record IsLifted (raised : Raised) (number : ℕ) (p : Place) (old new : List ℕ) : Type 0 where
  pub height : ℕ
  pub is : new ≡ slice_set old p.to.index height
  pub offered : height_at old p.from.index + gain_of_place raised number p ≡ height + cost_of_place raised p
  pub more : height_at old p.to.index < height

-- no place lifts its end
abbrev pub AreFinal : NetLists → Raised → List ℕ → Type 0
AreFinal net raised hs = (q : PlaceId) → q.index < length net.places → IsKeptBy raised q.index (place_at net q) hs

-- the heights as potentials
pub record ArePotentialsBy (hs : List ℕ) (vs : List ℤ) : Type 0 where
  pub count : length vs ≡ length hs
  pub each : (t : ℕ) → t < length hs → slice_index_or vs t (pos 0) ≡ pos (height_at hs t)

-- the place makes of the height of its start just that of its end
abbrev pub IsTightBy : Raised → ℕ → Place → List ℕ → Type 0
IsTightBy raised number p hs = height_at hs p.from.index + gain_of_place raised number p ≡ height_at hs p.to.index + cost_of_place raised p

-- which places of the net do
pub record AreTight (net : NetLists) (raised : Raised) (hs : List ℕ) (tight : List Bool) : Type 0 where
  pub count : length tight ≡ length net.places
  pub each : (q : PlaceId) → q.index < length net.places → IsUsable tight q ↔ IsTightBy raised q.index (place_at net q) hs

-- a circuit that passes the place and lacks just the gap to the ratio
pub record LacksGap (net : NetLists) (raised : Raised) (ps : List PlaceId) : Type 0 where
  pub circuit : IsCircuit net ps
  pub passes : Contains ps raised.place
  pub lacks : time_of net ps * raised.ratio.tokens + raised.gap ≡ raised.ratio.time * tokens_of net ps
