use Rattle.std.proofs.Common.{◌≡◌, refl}
use Rattle.teg_upstream.proofs.PartRules.{part_is_net, part_is_ranked}
use Rattle.teg_upstream.proofs.PartDates.{part_tells}
use Rattle.teg_upstream.proofs.parts.part_to.Goals as goal

pub new-requires : goal.new-requires
new-requires c =
    let net = c.args.net.now in
    let ts = rw c.transitions.ensures.value at c.in_ok-transitions.ensures in
    let ps = rw c.deref.ensures.value at c.in_ok-places.ensures in
    let ls = rw c.deref-2.ensures.value at c.in_ok-inputs.ensures in
    rw (ts, ps, ls) (part_is_net net c.in_ok-marks.marks.items c.rules.ensures)

pub returns : goal.returns
returns c =
    let net = c.args.net.now in
    let marks = c.in_ok-marks.marks.items in
    let ts = rw c.transitions.ensures.value at c.in_ok-transitions.ensures in
    let ps = rw c.deref.ensures.value at c.in_ok-places.ensures in
    let ls = rw c.deref-2.ensures.value at c.in_ok-inputs.ensures in
    rw (c.new.ensures, ts, ps, ls) (record {
      transitions = refl;
      rankings = part_is_ranked net marks;
      same = λ x y hx hy k o. part_tells net c.rules.ensures c.args.transition.index marks c.in_ok-marks.ensures.closed x y hx hy c.requires k o;
    })
