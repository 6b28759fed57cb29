use Rattle.std.proofs.Common.{arith}
use Rattle.dating_check.proofs.TableLines.{lines_fit}
use Rattle.dating_check.proofs.table_lines.numbers_of.Goals as goal

pub returns-then-cells-width-ne0 : goal.returns-then-cells-width-ne0
returns-then-cells-width-ne0 c = λ numbers few is. c.if-cells-width-ne0.true (lines_fit c.args.lines c.args.width numbers c.requires is).0

pub returns-then-numbers-gt4294967295 : goal.returns-then-numbers-gt4294967295
returns-then-numbers-gt4294967295 c = λ numbers few is. (let fit = (lines_fit c.args.lines c.args.width numbers c.requires is).1 in omega (arith, fit, few, c.if-numbers-gt4294967295.true))
