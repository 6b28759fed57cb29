use Rattle.teg_timetable.specs.WaysBack.{IsTop}
use Rattle.release_nets.proofs.Building.{built_more}
use Rattle.teg_timetable.proofs.late.tops.Goals as goal

pub loop-index-preserved : goal.loop-index-preserved
loop-index-preserved c =
    rw c.in_ok-push.ensures.items
    (built_more (IsTop c.args.left.now) c.loop-index.index c.loop-index.tops.items c.top.result c.loop-index.invariant c.top.ensures)
