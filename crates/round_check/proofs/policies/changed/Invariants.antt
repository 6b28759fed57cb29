use Rattle.std.proofs.Common.{ℕ, ◌<◌, ◌≡◌, length}
use Rattle.std.specs.Prelude.{◌↔◌}
use Rattle.policy_rounds.specs.Policies.{IsChanged}
use Rattle.policy_rounds.specs.PolicyLists.{policy_of}
use Rattle.teg_parts.specs.Components.{IsMarked}
use Rattle.round_check.proofs.policies.changed.Given as goal

abbrev pub invariant-loop-transition : goal.invariant-loop-transition
invariant-loop-transition l = record {
  count : length l.marks.items ≡ l.transition;
  each : (t : ℕ) → t < l.transition → IsMarked l.marks.items t ↔ IsChanged l.part.parts.now l.part.number (policy_of l.policy) (policy_of l.better) t;
}
