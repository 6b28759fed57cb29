-- Working definitions of the order of the places in which one pass over them settles a number, going back.
use Rattle.std.specs.Prelude.{ℕ, ◌+◌, ◌-◌, ◌<◌, ◌≡◌, List, false, length, All, Contains, slice_index}
use Rattle.std.specs.List.Sorted.{IsNonDecreasingBy}
use Rattle.teg_net.specs.Nets.{NetLists}
use Rattle.teg_net.specs.Circuits.{from_of}
use Rattle.witness_check.specs.Climbs.{RiseAlong}
use Rattle.dating_check.specs.declared.back_order.Placed.{Placed}

-- the place is one of the net, with how far the number of its start stands below 2^32 - 1
pub record IsPlaced (net : NetLists) (ranks : List ℕ) (o : Placed) : Type 0 where
  pub in_range : o.place.index < length net.places
  pub depth : o.depth + slice_index ranks (from_of net o.place) ≡ 4294967295

-- the place of this number with its depth
abbrev pub placed_at : NetLists → List ℕ → ℕ → Placed
placed_at net ranks q = record { depth = 4294967295 - slice_index ranks (from_of net (record { index = q })); place = record { index = q } }

-- all places of the net, those whose start has the greater number first
pub record IsBackOrder (net : NetLists) (ranks : List ℕ) (order : List Placed) : Type 0 where
  pub known : All (IsPlaced net ranks) order
  pub all : (q : ℕ) → q < length net.places → Contains order (placed_at net ranks q)
  pub sorted : IsNonDecreasingBy (λ o. o.depth) order

-- all places of a net, each once, by some numbers that rise along the places without tokens
pub record IsOrderBack (net : NetLists) (order : List Placed) : Type 0 where
  pub ranks : List ℕ
  pub rises : RiseAlong net false ranks
  pub back : IsBackOrder net ranks order
  pub few : length order ≡ length net.places
