use Rattle.std.proofs.Common.{ℕ, ◌<◌, get_or}
use Rattle.teg_net.specs.declared.entries.PlaceId.{PlaceId}
use Rattle.teg_net.specs.Parts.{to_of}
use Rattle.teg_parts.specs.Components.{IsMarked}
use Rattle.round_check.proofs.circuits.passes.Given as goal

abbrev pub invariant-loop-id : goal.invariant-loop-id
invariant-loop-id l = (k : ℕ) (d : PlaceId) → k < l.id-index → IsMarked l.marked (to_of l.net (get_or l.circuit k d)) → ⊥
