-- Weights of places, and potentials that bound what circuits weigh (chapter 3).
use Rattle.std.specs.Prelude.{ℕ, ℤ, pos, ◌+ℤ◌, ◌≤ℤ◌, List, [], ◌∷◌, All}
use Rattle.teg_net.specs.declared.entries.PlaceId.{PlaceId}
use Rattle.teg_net.specs.Nets.{NetLists}
use Rattle.teg_net.specs.Circuits.{IsCircuit, from_of}
use Rattle.teg_net.specs.Parts.{to_of}

-- what the places weigh together
abbrev pub weight_of : (PlaceId → ℤ) → List PlaceId → ℤ
weight_of w [] = pos 0
weight_of w (p ∷ ps) = w p +ℤ weight_of w ps

-- whatever places weigh: a circuit of which no place lifts its end above the potential there weighs at most 0
abbrev pub PotentialsBoundWeights : Type 0
PotentialsBoundWeights =
    (net : NetLists) (w : PlaceId → ℤ) (v : ℕ → ℤ) (ps : List PlaceId)
    → IsCircuit net ps → All (λ p. (w p +ℤ v (from_of net p)) ≤ℤ v (to_of net p)) ps → weight_of w ps ≤ℤ pos 0
