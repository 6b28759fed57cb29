use Rattle.std.proofs.Common.{refl, arith}
use Rattle.teg_net.specs.Circuits.{from_of}
use Rattle.delay_check.proofs.kept.keeps_delays.Goals as goal

pub returns : goal.returns
returns c = λ sure delay is.
    let p = c.args.planned.now in
    let net = p.net.now in
    let places = c.args.places.now in
    let late = c.is_late.ensures sure in
    let at = c.requires.left.each (from_of net late.0) late.2 in
    let once = at.2 delay is in
    c.tight_circuits_keep_delays.ensures.keep net p.kept.ends p.kept.live p.period p.table.now p.kept.workable delay is places
    (c.if-not-shows_kept.ensures.0 refl) (c.if-not-begins_lowest.ensures refl) late.0 late.1 at.0 at.1 (omega (arith, late.3, once))
