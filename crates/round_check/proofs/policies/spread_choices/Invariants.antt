use Rattle.std.proofs.Common.{ℕ, ◌<◌, ◌≡◌, length}
use Rattle.policy_rounds.specs.PolicyRounds.{choice_of_member, chosen_place, value_in}
use Rattle.policy_rounds.specs.PolicyLists.{policy_of}
use Rattle.round_check.specs.Offers.{values_at}
use Rattle.round_check.proofs.policies.spread_choices.Given as goal

abbrev pub invariant-loop-transition : goal.invariant-loop-transition
invariant-loop-transition l = record {
  count_places : length l.policy.items ≡ l.transition;
  count_values : length l.values.items ≡ l.transition;
  places : (t : ℕ) → t < l.transition → policy_of l.policy.items t ≡ chosen_place (choice_of_member l.choices t);
  values : (t : ℕ) → t < l.transition → values_at l.values.items t ≡ value_in (choice_of_member l.choices t);
}
