use Rattle.std.proofs.Common.{◌<◌, length, count_by, is_none}
use Rattle.policy_rounds.specs.PolicyLists.{policy_of, IsOnPolicy}
use Rattle.teg_howard.proofs.Passing.{Passing}
use Rattle.teg_howard.proofs.circuit_starts.pass.Given as goal

abbrev pub invariant-back : goal.invariant-back
invariant-back l = record {
  passing : Passing l.net (policy_of l.policy) l.start l.fn.passed l.passed l.at;
  on_policy : IsOnPolicy l.net (policy_of l.policy) l.at;
  in_range : l.at < length l.passed;
}

abbrev pub decreases-back : goal.decreases-back
decreases-back l = count_by is_none l.passed
