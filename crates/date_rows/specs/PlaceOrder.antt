-- The places in the order of their turns: first those with tokens, then the others by the ranks of their downstream transitions.
use Rattle.std.specs.Prelude.{ℕ, ◌<◌, ◌≡◌, List, length, All, Contains, slice_index, nat_eq, if◌then◌else◌}
use Rattle.std.specs.List.Sorted.{IsNonDecreasingBy}
use Rattle.teg_net.specs.declared.entries.Place.{Place}
use Rattle.teg_net.specs.Nets.{NetLists}
use Rattle.teg_net.specs.Circuits.{place_at}
use Rattle.teg_check.specs.Ranks.{IsRanking}
use Rattle.date_rows.specs.declared.order.OrderedPlace.{OrderedPlace}

-- the turn of a place: a rank above 0 where it has no tokens, and else 0
abbrev pub order_key : List ℕ → Place → ℕ
order_key ranks p = if nat_eq p.tokens 0 then slice_index ranks p.to.index else 0

-- the place of this number with its turn
abbrev pub turn_at : NetLists → List ℕ → ℕ → OrderedPlace
turn_at net ranks q =
    let p : Place = place_at net (record { index = q }) in
    record { turn = order_key ranks p; place = record { index = q }; from = p.from; to = p.to; tokens = p.tokens; hold = p.hold }

-- the ordered place has what a pass reads of one of the net's places
pub record IsOrderedPlaceOf (net : NetLists) (o : OrderedPlace) : Type 0 where
  pub in_range : o.place.index < length net.places
  pub from : o.from ≡ (place_at net o.place).from
  pub to : o.to ≡ (place_at net o.place).to
  pub tokens : o.tokens ≡ (place_at net o.place).tokens
  pub hold : o.hold ≡ (place_at net o.place).hold

-- the ordered place is one of the net's places, with its turn
pub record IsRankedPlace (net : NetLists) (ranks : List ℕ) (o : OrderedPlace) : Type 0 where
  pub place : IsOrderedPlaceOf net o
  pub turn : o.turn ≡ order_key ranks (place_at net o.place)

-- all places of the net, each once, in the order of their turns
pub record IsPlaceOrder (net : NetLists) (ranks : List ℕ) (order : List OrderedPlace) : Type 0 where
  pub once : length order ≡ length net.places
  pub known : All (IsRankedPlace net ranks) order
  pub all : (q : ℕ) → q < length net.places → Contains order (turn_at net ranks q)
  pub sorted : IsNonDecreasingBy (λ o. o.turn) order

-- all places of the net, in the order of their turns by some ranking of it
abbrev pub OrdersPlaces : NetLists → List OrderedPlace → Type 0
OrdersPlaces net order = (ranks : List ℕ) × IsRanking net ranks × IsPlaceOrder net ranks order
