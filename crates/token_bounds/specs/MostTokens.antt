-- The most tokens that a place of a net ever holds (chapter 2).
use Rattle.std.specs.Prelude.{ℕ, ◌<◌, ◌≤◌, ◌≡◌, ◌≢◌, List, Option, Some, None, length, Contains}
use Rattle.teg_net.specs.declared.entries.PlaceId.{PlaceId}
use Rattle.teg_net.specs.Nets.{NetLists}
use Rattle.teg_net.specs.Ratios.{Fraction}
use Rattle.teg_net.specs.Circuits.{place_at, IsCircuit, BeginsLowest, tokens_of}
use Rattle.run_laws.specs.declared.fired.Fired.{Fired}
use Rattle.run_laws.specs.Runs.{IsLegalRun}
use Rattle.run_laws.specs.Earliest.{tokens_in}
use Rattle.token_bounds.specs.declared.most.MostTokens.{MostTokens}

-- a circuit through the place that has so many tokens, fewer than which none has, so that no legal run has more of them in the place
pub record IsMostOf (net : NetLists) (p : PlaceId) (m : MostTokens) : Type 0 where
  pub circuit : IsCircuit net m.circuit.places.items
  pub lowest : BeginsLowest net m.circuit.places.items
  pub passes : Contains m.circuit.places.items p
  pub tokens : tokens_of net m.circuit.places.items ≡ m.tokens
  pub fewest : (ps : List PlaceId) → IsCircuit net ps → Contains ps p → m.tokens ≤ tokens_of net ps
  pub runs : (run : List Fired) → IsLegalRun net run → tokens_in run (place_at net p) ≤ m.tokens

-- there is such a circuit, or none passes the place
abbrev pub IsMostTokens : NetLists → PlaceId → Option MostTokens → Type 0
IsMostTokens net p None = (ps : List PlaceId) → IsCircuit net ps → Contains ps p → ⊥
IsMostTokens net p (Some m) = IsMostOf net p m

-- a time that is longer than a circuit of a net has tokens
abbrev pub long_time : ℕ
long_time = 1000000

-- a unit of time for each token
abbrev pub one_unit : Fraction
one_unit = record { time = 1; tokens = 1 }

-- the nets have the same places, with the same tokens
pub record HaveSamePlaces (net changed : NetLists) : Type 0 where
  pub count : length changed.places ≡ length net.places
  pub from : (q : PlaceId) → (place_at changed q).from ≡ (place_at net q).from
  pub to : (q : PlaceId) → (place_at changed q).to ≡ (place_at net q).to
  pub tokens : (q : PlaceId) → (place_at changed q).tokens ≡ (place_at net q).tokens

-- of which the first so many take no time
pub record AreStillUpTo (net changed : NetLists) (places : ℕ) : Type 0 where
  pub same : HaveSamePlaces net changed
  pub still : (q : PlaceId) → q.index < places → (place_at changed q).hold ≡ 0

-- of which this one alone takes time
pub record IsHeldAlone (net : NetLists) (p : PlaceId) (changed : NetLists) : Type 0 where
  pub same : HaveSamePlaces net changed
  pub own : (place_at changed p).hold ≡ long_time
  pub others : (q : PlaceId) → q.index < length net.places → q.index ≢ p.index → (place_at changed q).hold ≡ 0
