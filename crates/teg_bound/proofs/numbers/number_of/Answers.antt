use Rattle.std.proofs.Common.{arith}
use Rattle.teg_bound.proofs.Small.{are_small}
use Rattle.teg_bound.proofs.numbers.number_of.Goals as goal

pub overflow_mul-result-3 : goal.overflow_mul-result-3
overflow_mul-result-3 c = let small = are_small c.requires in omega (arith, small.product, small.straight)

pub overflow_add-result-3 : goal.overflow_add-result-3
overflow_add-result-3 c = let small = are_small c.requires in omega (arith, small.product, small.straight)

pub overflow_add-result-4 : goal.overflow_add-result-4
overflow_add-result-4 c = let small = are_small c.requires in omega (arith, small.product, small.straight)

pub returns-clause-small : goal.returns-clause-small
returns-clause-small c = let small = are_small c.requires in omega (arith, small.product, small.straight)
