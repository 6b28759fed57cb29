-- Paths weighed by what their places gain and cost (chapter 3).
use Rattle.std.specs.Prelude.{ℕ, ◌+◌, ◌≤◌, List, sum_by}
use Rattle.teg_net.specs.declared.entries.PlaceId.{PlaceId}
use Rattle.teg_net.specs.Nets.{NetLists}
use Rattle.teg_net.specs.Circuits.{IsCircuit}

-- no circuit gains more than it costs
abbrev pub NoCircuitGains : NetLists → (PlaceId → ℕ) → (PlaceId → ℕ) → Type 0
NoCircuitGains net gain cost = (ps : List PlaceId) → IsCircuit net ps → sum_by gain ps ≤ sum_by cost ps

-- the second path gains at least as much as the first, less what they cost
abbrev pub WeighsAtMost : (PlaceId → ℕ) → (PlaceId → ℕ) → List PlaceId → List PlaceId → Type 0
WeighsAtMost gain cost ps qs = sum_by gain ps + sum_by cost qs ≤ sum_by gain qs + sum_by cost ps
