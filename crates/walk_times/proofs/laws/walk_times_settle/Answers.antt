use Rattle.walk_times.proofs.WalkForms.{walk_forms}
use Rattle.walk_times.proofs.laws.walk_times_settle.Goals as goal

pub returns : goal.returns
returns c = walk_forms c.systems_settle.ensures.settles
