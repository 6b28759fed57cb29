use Rattle.delay_check.specs.ShownDelays.{AreSomewhereLeft}
use Rattle.delay_check.proofs.left.take_given.Given as goal

abbrev pub invariant-loop-index : goal.invariant-loop-index
invariant-loop-index l = AreSomewhereLeft l.net l.period l.table l.left
