use Rattle.std.proofs.Common.{rules}
use Rattle.teg_transfer.proofs.Transferred.{one_more, none_more}
use Rattle.teg_transfer.proofs.transfer.those_of_role.Goals as goal

pub loop-index-preserved : goal.loop-index-preserved
loop-index-preserved c = search (rules, one_more, none_more)
