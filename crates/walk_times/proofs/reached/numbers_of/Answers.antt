use Rattle.std.proofs.Common.{arith, rules}
use Rattle.walk_times.proofs.Numbering.{passed_over, taken_in}
use Rattle.walk_times.proofs.reached.numbers_of.Goals as goal

pub overflow_cast-len : goal.overflow_cast-len
overflow_cast-len c = let few = c.loop-index.invariant.few in omega arith

pub loop-index-preserved : goal.loop-index-preserved
loop-index-preserved c = search (rules, passed_over, taken_in)
