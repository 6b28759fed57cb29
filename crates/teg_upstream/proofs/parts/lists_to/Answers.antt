use Rattle.std.proofs.Common.{rules}
use Rattle.teg_upstream.proofs.PartRules.{kept_more, left_out}
use Rattle.teg_upstream.proofs.parts.lists_to.Goals as goal

pub loop-list-preserved : goal.loop-list-preserved
loop-list-preserved c = search (rules, kept_more, left_out)
