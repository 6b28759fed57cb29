use Rattle.teg_parts.proofs.OneParts.{one_parts}
use Rattle.teg_parts.proofs.laws.parts_are_one.Goals as goal

pub returns : goal.returns
returns c = one_parts
