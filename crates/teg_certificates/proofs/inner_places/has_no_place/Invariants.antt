use Rattle.std.proofs.Common.{ℕ, ◌<◌}
use Rattle.teg_net.specs.Parts.{IsPlaceOfPart}
use Rattle.teg_certificates.proofs.inner_places.has_no_place.Given as goal

abbrev pub invariant-loop-place : goal.invariant-loop-place
invariant-loop-place l = (k : ℕ) → k < l.place-index → IsPlaceOfPart l.part.net.now l.part.part_of.now l.part.number (record { index = k }) → ⊥
