use Rattle.std.proofs.Common.{length}
use Rattle.release_nets.specs.ReleaseNetsBuilt.{IsDerivedList}
use Rattle.release_nets.proofs.Building.{built_more}
use Rattle.release_nets.proofs.derived.lists.Goals as goal

pub loop-index-preserved : goal.loop-index-preserved
loop-index-preserved c =
    let p = c.args.planned.now in
    rw c.in_ok-push.ensures.items
    (built_more (IsDerivedList p.period p.table.now (length p.net.now.transitions)) c.loop-index.index c.loop-index.lists.items c.in_ok-made.made c.loop-index.invariant c.in_ok-made.ensures)
