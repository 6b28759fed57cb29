-- Circuits and numbers of parts (chapter 2).
use Rattle.std.specs.Prelude.{ℕ, ◌≤◌, ◌≡◌, List, length, All, slice_index}
use Rattle.teg_net.specs.declared.entries.PlaceId.{PlaceId}
use Rattle.teg_net.specs.Nets.{NetLists, HasEndsInRange}
use Rattle.teg_net.specs.Circuits.{IsCircuit}
use Rattle.teg_net.specs.Parts.{IsPlaceOfPart}

-- where numbers of transitions never fall along a place, the places of each circuit have one number
abbrev pub CircuitsLieInOnePart : Type 0
CircuitsLieInOnePart =
    (net : NetLists) (part_of : List ℕ) → HasEndsInRange net → length part_of ≡ length net.transitions
    → All (λ p. slice_index part_of p.from.index ≤ slice_index part_of p.to.index) net.places
    → (ps : List PlaceId) → IsCircuit net ps → (part : ℕ) × All (IsPlaceOfPart net part_of part) ps
