use Rattle.delay_check.specs.ShownDelays.{AreSomewhereLeft}
use Rattle.delay_check.proofs.left.left_somewhere.Given as goal

abbrev pub invariant-loop : goal.invariant-loop
invariant-loop l = AreSomewhereLeft l.net l.period l.table l.left.items
