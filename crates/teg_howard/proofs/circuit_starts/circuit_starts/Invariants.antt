use Rattle.policy_rounds.specs.PolicyLists.{policy_of}
use Rattle.teg_howard.proofs.Passing.{Started}
use Rattle.teg_howard.proofs.circuit_starts.circuit_starts.Given as goal

abbrev pub invariant-loop-start : goal.invariant-loop-start
invariant-loop-start l = Started l.part.net.now (policy_of l.policy) l.part.parts.now l.part.number l.starts.items l.passed.items l.start
