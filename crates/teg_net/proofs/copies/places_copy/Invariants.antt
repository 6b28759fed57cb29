use Rattle.std.proofs.Common.{◌≡◌, take}
use Rattle.teg_net.proofs.copies.places_copy.Given as goal

abbrev pub invariant-loop-place : goal.invariant-loop-place
invariant-loop-place l = l.copies.items ≡ take l.place-index l.places
