use Rattle.std.proofs.Common.{◌+◌, ◌*◌}
use Rattle.teg_jit.specs.Transposed.{AreTransposedTo}
use Rattle.teg_jit.proofs.transposed_list.transpose_number.Given as goal

abbrev pub invariant-loop-transition : goal.invariant-loop-transition
invariant-loop-transition l = AreTransposedTo l.width l.numbers l.dates l.columns (l.number * l.width + l.transition)
