use Rattle.std.proofs.Common.{ℕ, ◌<◌, ◌≡◌, length}
use Rattle.policy_rounds.specs.PolicyLists.{policy_of}
use Rattle.round_check.specs.Offers.{IsBetterAt, values_at}
use Rattle.round_check.proofs.policies.better_policy.Given as goal

abbrev pub invariant-loop-transition : goal.invariant-loop-transition
invariant-loop-transition l = record {
  count : length l.better.items ≡ l.transition;
  each : (t : ℕ) → t < l.transition → IsBetterAt l.part.net.now l.part.parts.now l.part.number l.ratio.time l.ratio.tokens
      (values_at l.values) t (policy_of l.policy t) (policy_of l.better.items t);
}
