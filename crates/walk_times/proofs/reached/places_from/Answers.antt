use Rattle.std.proofs.Common.{rules}
use Rattle.walk_times.proofs.ReachedPart.{kept_more, left_out}
use Rattle.walk_times.proofs.reached.places_from.Goals as goal

pub loop-place-preserved : goal.loop-place-preserved
loop-place-preserved c = search (rules, kept_more, left_out)
