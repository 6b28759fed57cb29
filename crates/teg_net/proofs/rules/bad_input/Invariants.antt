use Rattle.std.proofs.Common.{take}
use Rattle.std.specs.Prelude.{All}
use Rattle.teg_net.specs.Nets.{IsInputOf, transitions_alone}
use Rattle.teg_net.proofs.rules.bad_input.Given as goal

abbrev pub invariant-loop-index : goal.invariant-loop-index
invariant-loop-index l = All (IsInputOf (transitions_alone l.transitions)) (take l.index l.inputs)
