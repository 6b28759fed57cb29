use Rattle.std.proofs.Common.{ℕ, ◌<◌}
use Rattle.policy_rounds.specs.PolicyLists.{policy_of}
use Rattle.teg_net.specs.Parts.{IsMember}
use Rattle.round_check.specs.PolicyCircuits.{AreAtMost}
use Rattle.round_check.proofs.circuits.all_fit.Given as goal

abbrev pub invariant-loop-start : goal.invariant-loop-start
invariant-loop-start l = (s : ℕ) → s < l.start → IsMember l.part.parts.now l.part.number s
    → AreAtMost l.part.net.now l.part.parts.now l.part.number (policy_of l.policy) l.marked l.bound s
