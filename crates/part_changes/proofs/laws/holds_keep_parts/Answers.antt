use Rattle.part_changes.proofs.SameEnds.{kept_by_holds}
use Rattle.part_changes.proofs.laws.holds_keep_parts.Goals as goal

pub returns : goal.returns
returns c = kept_by_holds
