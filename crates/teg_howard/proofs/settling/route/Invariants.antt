use Rattle.std.proofs.Common.{List, ◌<◌, length, count_by, is_none}
use Rattle.std.specs.Prelude.{All}
use Rattle.teg_net.specs.declared.entries.PlaceId.{PlaceId}
use Rattle.teg_howard.specs.FoundCircuits.{NoneLeadsOn}
use Rattle.policy_rounds.specs.PolicyLists.{policy_of}
use Rattle.teg_howard.proofs.Values.{Routed}
use Rattle.teg_howard.proofs.settling.route.Given as goal

abbrev pub invariant-route : goal.invariant-route
invariant-route l = record {
  in_range : All (λ p. p.index < length l.part.net.now.places) l.policy;
  routed : (joins : List PlaceId) × Routed l.part.net.now l.part.parts.now l.part.number l.ratio.time l.ratio.tokens l.root (policy_of l.fn.policy) joins (policy_of l.policy) l.values.items;
  none_before : NoneLeadsOn l.part.net.now l.values.items l.part.ids.now l.from;
}

abbrev pub decreases-route : goal.decreases-route
decreases-route l = count_by is_none l.values.items
