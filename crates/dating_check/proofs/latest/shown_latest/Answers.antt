use Rattle.std.proofs.Common.{rules, refl}
use Rattle.dating_check.proofs.latest.shown_latest.Goals as goal

pub returns : goal.returns
returns c = (search rules, c.if-not-bounds.ensures refl)
