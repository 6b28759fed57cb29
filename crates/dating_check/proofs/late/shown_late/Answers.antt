use Rattle.std.proofs.Common.{rules, refl}
use Rattle.dating_check.proofs.late.shown_late.Goals as goal

pub returns : goal.returns
returns c = record {
  told = c.in_ok-tells_late.ensures (search rules);
  no_earlier = c.if-not-refuses.ensures.no_earlier refl;
  late = c.if-not-refuses.ensures.late refl;
  refused = c.if-not-refuses.ensures.refused refl;
}
