use Rattle.std.proofs.Common.{arith}
use Rattle.answer_check.proofs.OtherRows.{between_begins, between_ends}
use Rattle.answer_check.proofs.refuted_list.first_other_row.Goals as goal

pub halving-init : goal.halving-init
halving-init c = between_begins c.args.net.now c.args.dates.now c.args.count c.requires.rows c.requires.other

pub returns : goal.returns
returns c = between_ends c.args.net.now c.args.dates.now c.args.count c.halving.right c.halving.wrong c.rules.ensures c.requires.rows c.halving.invariant (omega arith)
