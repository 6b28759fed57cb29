use Rattle.std.proofs.Common.{◌≡◌, filter, take}
use Rattle.teg_upstream.specs.Parts.{ends_marked}
use Rattle.teg_upstream.proofs.parts.places_to.Given as goal

abbrev pub invariant-loop-place : goal.invariant-loop-place
invariant-loop-place l = l.kept.items ≡ filter (ends_marked l.marks) (take l.place-index l.place-items)
