-- Which places into a transition are held longest: where firings bring all tokens, the others have theirs no later.
use Rattle.std.specs.Prelude.{ℕ, ◌<◌, ◌≤◌, ◌≡◌, List, length, All, Any}
use Rattle.teg_net.specs.declared.entries.PlaceId.{PlaceId}
use Rattle.teg_net.specs.Nets.{NetLists}
use Rattle.teg_net.specs.Circuits.{place_at}

-- both places join the same transitions with as many tokens, and the one is held as long as the other or longer
pub record IsHeldAsLong (net : NetLists) (one other : PlaceId) : Type 0 where
  pub from : (place_at net one).from ≡ (place_at net other).from
  pub to : (place_at net one).to ≡ (place_at net other).to
  pub tokens : (place_at net one).tokens ≡ (place_at net other).tokens
  pub hold : (place_at net other).hold ≤ (place_at net one).hold

-- a place of the net that is held as long as the one and as the other
pub record IsLongerOf (net : NetLists) (one other longer : PlaceId) : Type 0 where
  pub known : longer.index < length net.places
  pub over_one : IsHeldAsLong net longer one
  pub over_other : IsHeldAsLong net longer other

-- places into transition t, of which for each place into it one is held as long
pub record ListsLongestAt (net : NetLists) (t : ℕ) (ids : List PlaceId) : Type 0 where
  pub known : All (λ p. p.index < length net.places) ids
  pub right : All (λ p. (place_at net p).to.index ≡ t) ids
  pub all : (other : PlaceId) → other.index < length net.places → (place_at net other).to.index ≡ t → Any (λ p. IsHeldAsLong net p other) ids
