use Rattle.std.proofs.Common.{arith}
use Rattle.teg_calc.proofs.Digits.{one_more}
use Rattle.teg_calc.proofs.readers.date_on.Goals as goal

pub overflow_mul-result : goal.overflow_mul-result
overflow_mul-result c = omega (arith, one_more c.args.count c.args.value (omega arith) c.requires.1)

pub overflow_add-result-in-Some : goal.overflow_add-result-in-Some
overflow_add-result-in-Some c = omega (arith, c.in-Some.ensures.digit, one_more c.args.count c.args.value (omega arith) c.requires.1)
