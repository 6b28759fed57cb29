use Rattle.policy_rounds.specs.PolicyLists.{policy_of}
use Rattle.teg_howard.proofs.Best.{BestTo}
use Rattle.teg_howard.proofs.policy_circuits.best_circuit.Given as goal

abbrev pub invariant-loop-start : goal.invariant-loop-start
invariant-loop-start l = BestTo l.part.net.now l.part.parts.now l.part.number (policy_of l.policy) l.marked l.start l.best
