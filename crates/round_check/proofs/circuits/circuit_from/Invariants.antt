use Rattle.teg_net.specs.Parts.{IsMember}
use Rattle.policy_rounds.specs.PolicyLists.{policy_of}
use Rattle.round_check.proofs.Walking.{Walking}
use Rattle.round_check.proofs.circuits.circuit_from.Given as goal

abbrev pub invariant-walk : goal.invariant-walk
invariant-walk l = record {
  walking : Walking l.part.net.now (policy_of l.policy) l.marked l.start l._step l.at l.time l.tokens l.passes;
  member : IsMember l.part.parts.now l.part.number l.at;
}
