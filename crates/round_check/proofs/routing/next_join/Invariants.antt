use Rattle.std.proofs.Common.{◌<◌}
use Rattle.teg_net.specs.declared.entries.PlaceId.{PlaceId}
use Rattle.round_check.specs.Routes.{Leads}
use Rattle.round_check.proofs.routing.next_join.Given as goal

abbrev pub invariant-loop-index : goal.invariant-loop-index
invariant-loop-index l = (q : PlaceId) → Leads l.part.net.now l.part.parts.now l.part.number l.marked q → q.index < l.index → ⊥
