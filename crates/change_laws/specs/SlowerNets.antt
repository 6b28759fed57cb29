-- Slower nets: places with longer holding times or fewer tokens, and further places (chapter 2).
use Rattle.std.specs.Prelude.{ℕ, ◌<◌, ◌≤◌, ◌≡◌, length, All}
use Rattle.teg_net.specs.declared.entries.Place.{Place}
use Rattle.teg_net.specs.declared.entries.PlaceId.{PlaceId}
use Rattle.teg_net.specs.Nets.{NetLists}
use Rattle.teg_net.specs.Circuits.{place_at}
use Rattle.teg_net.specs.ReadyDates.{ready_date}

-- the second place leads between the same transitions, holds as long or longer, and has as many tokens or fewer
pub record IsSlowerPlace (p q : Place) : Type 0 where
  pub same_from : p.from.index ≡ q.from.index
  pub same_to : p.to.index ≡ q.to.index
  pub holds : p.hold ≤ q.hold
  pub tokens : q.tokens ≤ p.tokens

-- a token that the first place has is ready when that of its number in the second is, or before, and at 0 where the second has none
abbrev pub IsReadyNoLater : Place → Place → Type 0
IsReadyNoLater p q = (k : ℕ) → 1 ≤ k → k ≤ p.tokens → ready_date p k ≤ ready_date q k

-- no place has more ready dates than tokens
abbrev pub HasReadyDatesOfTokens : NetLists → Type 0
HasReadyDatesOfTokens net = All (λ p. length p.ready ≤ p.tokens) net.places

-- for each place of the first net the second has a slower one; it may have further places
abbrev pub HasSlowerPlaces : NetLists → NetLists → Type 0
HasSlowerPlaces net slower = (id : PlaceId) → id.index < length net.places
    → (other : PlaceId) × (other.index < length slower.places) × IsSlowerPlace (place_at net id) (place_at slower other)

-- the second net has the same transitions, and for each place of the first a slower one whose tokens are ready no earlier; it may
-- have further places
pub record IsSlowerNet (net slower : NetLists) : Type 0 where
  pub transitions : net.transitions ≡ slower.transitions
  pub each : (id : PlaceId) → id.index < length net.places
      → (other : PlaceId) × (other.index < length slower.places) × IsSlowerPlace (place_at net id) (place_at slower other) × IsReadyNoLater (place_at net id) (place_at slower other)
