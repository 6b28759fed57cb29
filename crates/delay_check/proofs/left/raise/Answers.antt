use Rattle.delay_check.proofs.Passing.{left_more}
use Rattle.delay_check.proofs.left.raise.Goals as goal

pub returns : goal.returns
returns c =
    left_more c.args.net.now c.args.period c.args.table.now c.args.left.now c.args.at.index c.args.late c.greater.result c.requires.at c.requires.late c.requires.left c.greater.ensures
