use Rattle.part_changes.proofs.SameEnds.{same_ends}
use Rattle.part_changes.proofs.laws.same_ends_keep_parts.Goals as goal

pub returns : goal.returns
returns c = same_ends
