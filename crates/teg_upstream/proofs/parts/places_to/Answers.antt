use Rattle.std.proofs.Common.{rules}
use Rattle.teg_upstream.proofs.PartRules.{kept_more, left_out}
use Rattle.teg_upstream.proofs.parts.places_to.Goals as goal

pub loop-place-preserved : goal.loop-place-preserved
loop-place-preserved c = search (rules, kept_more, left_out)
