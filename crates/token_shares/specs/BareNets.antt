-- Working definitions of nets without dates, of trials of them, and of places that are closed.
use Rattle.std.specs.Prelude.{ℕ, ◌≡◌, List, [], ◌∷◌, length, map, drop, All}
use Rattle.teg_net.specs.declared.entries.Place.{Place}
use Rattle.teg_net.specs.declared.entries.PlaceId.{PlaceId}
use Rattle.teg_net.specs.Changes.{with_place}
use Rattle.teg_net.specs.Circuits.{place_at}
use Rattle.teg_net.specs.Nets.{NetLists, lists_of}
use Rattle.token_shares.specs.TokenShares.{with_further}

-- the place without ready dates
abbrev pub without_ready : Place → Place
without_ready p = record { name = p.name; from = p.from; to = p.to; hold = p.hold; tokens = p.tokens; ready = [] }

-- the net without ready dates and input lists
abbrev pub bare : NetLists → NetLists
bare net = lists_of net.transitions (map without_ready net.places) []

-- no place has a ready date
abbrev pub HasNoDates : NetLists → Type 0
HasNoDates net = All (λ p. p.ready ≡ []) net.places

-- the net has the further tokens of the first so many places: with those of the others it is what was asked for
pub record IsTrialUpTo (plain : NetLists) (places : List PlaceId) (ds : List ℕ) (done : ℕ) (trial : NetLists) : Type 0 where
  pub count : length trial.places ≡ length plain.places
  pub no_dates : HasNoDates trial
  pub rest : with_further trial (drop done places) (drop done ds) ≡ with_further plain places ds

-- a place that leads back to its own end, at once and with a token: no other circuit passes it
abbrev pub closed_place : Place → Place
closed_place p = record { name = p.name; from = p.to; to = p.to; hold = 0; tokens = 1; ready = p.ready }

-- the net with these places closed
abbrev pub with_closed : NetLists → List PlaceId → NetLists
with_closed net [] = net
with_closed net (p ∷ places) = with_closed (with_place net p (closed_place (place_at net p))) places
