use Rattle.std.proofs.Common.{refl, subst}
use Rattle.delay_check.specs.ShownDelays.{KeepsWhatIsLeft}
use Rattle.delay_check.proofs.kept.shows.Goals as goal

pub returns : goal.returns
returns c = λ yes.
    let p = c.args.planned.now in
    record {
      planned = p.kept;
      told = c.in_ok-tells.ensures yes;
      keeps = subst (KeepsWhatIsLeft p.net.now p.period p.table.now) c.as_slice-places.ensures.value (c.if-not-keeps_delays.ensures refl);
    }
