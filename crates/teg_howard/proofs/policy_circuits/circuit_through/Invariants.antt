use Rattle.policy_rounds.specs.PolicyLists.{policy_of, IsOnPolicy}
use Rattle.teg_howard.proofs.Walks.{Walked}
use Rattle.teg_howard.proofs.policy_circuits.circuit_through.Given as goal

abbrev pub invariant-walk : goal.invariant-walk
invariant-walk l = record {
  walked : Walked l.net (policy_of l.policy) l.start l._step l.at l.back.items l.time l.tokens;
  on_policy : IsOnPolicy l.net (policy_of l.policy) l.at;
}
