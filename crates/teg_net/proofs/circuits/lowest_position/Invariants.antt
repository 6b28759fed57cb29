use Rattle.std.proofs.Common.{ℕ, ◌<◌, ◌≤◌, length, get_or}
use Rattle.teg_net.specs.declared.entries.PlaceId.{PlaceId}
use Rattle.teg_net.specs.Circuits.{from_of}
use Rattle.teg_net.proofs.circuits.lowest_position.Given as goal

-- of the places so far, that at lowest leaves the lowest numbered transition
abbrev pub invariant-loop-index : goal.invariant-loop-index
invariant-loop-index l = record {
  within : l.lowest < length l.places;
  low : (k : ℕ) (d : PlaceId) → k < l.index → from_of l.net (get_or l.places l.lowest d) ≤ from_of l.net (get_or l.places k d);
}
