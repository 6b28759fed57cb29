use Rattle.std.proofs.Common.{take}
use Rattle.std.specs.Prelude.{All, IsTrue}
use Rattle.teg_net.specs.Names.{is_name}
use Rattle.teg_net.proofs.rules.transitions_are_named.Given as goal

abbrev pub invariant-loop-transition : goal.invariant-loop-transition
invariant-loop-transition l = All (λ t. IsTrue (is_name t.name)) (take l.transition-index l.transitions)
