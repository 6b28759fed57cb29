-- Working definitions of the order of the places with tokens: by their upstream transitions, then by their tokens.
use Rattle.std.specs.Prelude.{ℕ, ◌<◌, ◌≤◌, ◌≡◌, ◌+◌, ◌*◌, List, length, All, Contains}
use Rattle.std.specs.List.Sorted.{IsNonDecreasingBy}
use Rattle.teg_net.specs.Nets.{NetLists}
use Rattle.teg_net.specs.Circuits.{place_at}
use Rattle.teg_form.specs.declared.order.Marked.{Marked}

-- one of the net's places, with tokens, and its key
pub record IsMarkedPlace (net : NetLists) (m : Marked) : Type 0 where
  pub in_range : m.place.index < length net.places
  pub key : m.key ≡ (place_at net m.place).from.index * 1001 + (place_at net m.place).tokens
  pub some : 1 ≤ (place_at net m.place).tokens

-- the place of this number with its key
abbrev pub marked_at : NetLists → ℕ → Marked
marked_at net k =
    record { key = (place_at net (record { index = k })).from.index * 1001 + (place_at net (record { index = k })).tokens; place = record { index = k } }

-- all places with tokens, in the order of their keys
pub record IsKeyOrder (net : NetLists) (order : List Marked) : Type 0 where
  pub few : length order ≤ length net.places
  pub known : All (IsMarkedPlace net) order
  pub all : (k : ℕ) → k < length net.places → 1 ≤ (place_at net (record { index = k })).tokens → Contains order (marked_at net k)
  pub sorted : IsNonDecreasingBy (λ m. m.key) order
