use Rattle.policy_rounds.specs.PolicyLists.{policy_of, IsOnPolicy}
use Rattle.teg_howard.proofs.Passing.{Lowering}
use Rattle.teg_howard.proofs.circuit_starts.lowest_back.Given as goal

abbrev pub invariant-walk : goal.invariant-walk
invariant-walk l = record {
  lowering : Lowering l.net (policy_of l.policy) l.start l._step l.at l.lowest;
  on_policy : IsOnPolicy l.net (policy_of l.policy) l.at;
}
