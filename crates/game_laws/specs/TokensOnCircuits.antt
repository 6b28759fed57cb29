-- The tokens on the circuits of a net along a legal run (chapter 2).
use Rattle.std.specs.Prelude.{ℕ, ◌<◌, ◌≤◌, ◌≡◌, List, length, sum_by, Contains}
use Rattle.teg_net.specs.declared.entries.PlaceId.{PlaceId}
use Rattle.teg_net.specs.Nets.{NetLists, HasEndsInRange}
use Rattle.teg_net.specs.Circuits.{place_at, IsCircuit, IsLive, tokens_of}
use Rattle.run_laws.specs.declared.fired.Fired.{Fired}
use Rattle.run_laws.specs.Runs.{IsLegalRun}
use Rattle.run_laws.specs.Earliest.{tokens_in}
use Rattle.game_laws.specs.LiveByTheGame.{NoInputListEnds}

-- the number of tokens on a circuit never changes
abbrev pub TokensOnCircuitsStay : Type 0
TokensOnCircuitsStay = (net : NetLists) (run : List Fired) → IsLegalRun net run → (ps : List PlaceId) → IsCircuit net ps
    → sum_by (λ p. tokens_in run (place_at net p)) ps ≡ tokens_of net ps

-- so no place of a circuit ever has more tokens than the circuit
abbrev pub PlacesHoldWithinCircuits : Type 0
PlacesHoldWithinCircuits = (net : NetLists) (run : List Fired) → IsLegalRun net run → (ps : List PlaceId) → IsCircuit net ps → (p : PlaceId) → Contains ps p
    → tokens_in run (place_at net p) ≤ tokens_of net ps

-- and where no input list of a live net ends, some legal run fills the place up to as many tokens as each circuit through it has at
-- least: the fewest of a circuit, or any number where there is none
abbrev pub PlacesFillUp : Type 0
PlacesFillUp = (net : NetLists) → HasEndsInRange net → IsLive net → NoInputListEnds net → (p : PlaceId) → p.index < length net.places
    → (most : ℕ) → ((ps : List PlaceId) → IsCircuit net ps → Contains ps p → most ≤ tokens_of net ps)
    → (run : List Fired) × IsLegalRun net run × (most ≤ tokens_in run (place_at net p))
