use Rattle.std.proofs.Common.{take}
use Rattle.teg_net.specs.NetFaults.{AreNamedApart}
use Rattle.teg_net.proofs.rules.same_transition.Given as goal

abbrev pub invariant-loop-index : goal.invariant-loop-index
invariant-loop-index l = AreNamedApart (take l.index l.transitions)
