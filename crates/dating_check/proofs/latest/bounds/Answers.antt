use Rattle.dating_check.proofs.Bounding.{walk_bounds}
use Rattle.dating_check.proofs.latest.bounds.Goals as goal

pub returns : goal.returns
returns c y =
    let h = c.is_tight.ensures in
    walk_bounds c.args.net.now c.rules.ensures c.args.row.now c.args.walk.now c.args.shown.transition.index c.args.shown.number c.args.shown.date
    (h.walk y) (h.start y) (h.number y) (h.ends y) (h.time y) c.tight_walks_bound.ensures
