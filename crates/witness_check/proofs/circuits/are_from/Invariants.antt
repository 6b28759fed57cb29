use Rattle.std.proofs.Common.{ℕ, ◌<◌, ◌≤◌, get_or}
use Rattle.teg_net.specs.declared.entries.PlaceId.{PlaceId}
use Rattle.teg_net.specs.Circuits.{from_of}
use Rattle.witness_check.proofs.circuits.are_from.Given as goal

abbrev pub invariant-loop-place : goal.invariant-loop-place
invariant-loop-place l = (k : ℕ) (q : PlaceId) → k < l.place-index → l.lowest ≤ from_of l.net (get_or l.places k q)
