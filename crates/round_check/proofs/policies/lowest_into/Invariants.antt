use Rattle.std.proofs.Common.{◌<◌}
use Rattle.teg_net.specs.declared.entries.PlaceId.{PlaceId}
use Rattle.policy_rounds.specs.Policies.{Enters}
use Rattle.round_check.proofs.policies.lowest_into.Given as goal

abbrev pub invariant-loop-index : goal.invariant-loop-index
invariant-loop-index l = (q : PlaceId) → Enters l.part.net.now l.part.parts.now l.part.number l.transition q → q.index < l.index → ⊥
