use Rattle.teg_jit.proofs.DueNumbers.{NumberedTo}
use Rattle.teg_jit.proofs.due_numbers.by_number.Given as goal

abbrev pub invariant-loop-index : goal.invariant-loop-index
invariant-loop-index l = NumberedTo l.rows l.order.items l.index
