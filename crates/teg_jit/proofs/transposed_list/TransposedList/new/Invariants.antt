use Rattle.std.proofs.Common.{◌*◌}
use Rattle.teg_jit.specs.Transposed.{AreTransposedTo}
use Rattle.teg_jit.proofs.transposed_list.TransposedList.new.Given as goal

abbrev pub invariant-loop-number : goal.invariant-loop-number
invariant-loop-number l = AreTransposedTo l.width l.numbers l.dates l.columns (l.number * l.width)
