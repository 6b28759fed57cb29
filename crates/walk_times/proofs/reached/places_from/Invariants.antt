use Rattle.std.proofs.Common.{◌≡◌, take}
use Rattle.walk_times.specs.Reached.{places_from}
use Rattle.walk_times.proofs.reached.places_from.Given as goal

abbrev pub invariant-loop-place : goal.invariant-loop-place
invariant-loop-place l = l.kept.items ≡ places_from l.marks l.new (take l.place-index l.place-items)
