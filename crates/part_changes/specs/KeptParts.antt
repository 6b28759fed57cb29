-- Changes of a net that keep its strong parts (chapter 2).
use Rattle.std.specs.Prelude.{ℕ, ◌≡◌}
use Rattle.teg_net.specs.declared.entries.Place.{Place}
use Rattle.teg_net.specs.declared.entries.PlaceId.{PlaceId}
use Rattle.teg_net.specs.Changes.{with_hold, with_place, with_tokens}
use Rattle.teg_net.specs.Circuits.{place_at}
use Rattle.teg_net.specs.Nets.{NetLists}
use Rattle.teg_parts.specs.Partitions.{PartLists, AreParts}

-- the two places lead between the same transitions
pub record HasSameEnds (p q : Place) : Type 0 where
  pub from : p.from ≡ q.from
  pub to : p.to ≡ q.to

-- the parts of a net are those of the net with another place between the same transitions
abbrev pub SameEndsKeepParts : Type 0
SameEndsKeepParts =
    (net : NetLists) (id : PlaceId) (place : Place) (parts : PartLists) → HasSameEnds place (place_at net id) → AreParts net parts → AreParts (with_place net id place) parts

-- the parts of a net are those of the net with another holding time of a place
abbrev pub HoldsKeepParts : Type 0
HoldsKeepParts = (net : NetLists) (id : PlaceId) (hold : ℕ) (parts : PartLists) → AreParts net parts → AreParts (with_hold net id hold) parts

-- the parts of a net are those of the net with another number of tokens in a place
abbrev pub TokensKeepParts : Type 0
TokensKeepParts = (net : NetLists) (id : PlaceId) (tokens : ℕ) (parts : PartLists) → AreParts net parts → AreParts (with_tokens net id tokens) parts
