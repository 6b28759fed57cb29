use Rattle.std.proofs.Common.{ℕ, ◌<◌, ◌≡◌, length}
use Rattle.std.specs.Prelude.{◌↔◌}
use Rattle.teg_net.specs.Parts.{IsMember}
use Rattle.policy_rounds.specs.Policies.{LeadsBack}
use Rattle.policy_rounds.specs.PolicyLists.{policy_of}
use Rattle.teg_parts.specs.Components.{IsMarked}
use Rattle.round_check.proofs.routing.homes.Given as goal

abbrev pub invariant-loop-member : goal.invariant-loop-member
invariant-loop-member l = record {
  count : length l.home.items ≡ l.member;
  each : (t : ℕ) → t < l.member → IsMarked l.home.items t ↔ (IsMember l.part.parts.now l.part.number t × LeadsBack l.part.net.now (policy_of l.policy) t l.root);
}
