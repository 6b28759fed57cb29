use Rattle.std.proofs.Common.{ℕ, ◌<◌, get_or}
use Rattle.teg_net.specs.Parts.{to_of}
use Rattle.teg_parts.specs.Components.{IsMarked}
use Rattle.policy_rounds.specs.Policies.{first_id}
use Rattle.teg_howard.proofs.policy_circuits.passes.Given as goal

abbrev pub invariant-loop-id : goal.invariant-loop-id
invariant-loop-id l = (k : ℕ) → k < l.id-index → IsMarked l.marked (to_of l.net (get_or l.circuit k first_id)) → ⊥
