use Rattle.walk_times.specs.Reached.{IsNumbering}
use Rattle.walk_times.proofs.reached.numbers_of.Given as goal

abbrev pub invariant-loop-index : goal.invariant-loop-index
invariant-loop-index l = IsNumbering l.marks l.index l.old.items l.new.items
