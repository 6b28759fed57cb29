use Rattle.release_nets.specs.ReleaseNetsBuilt.{IsDerivedTransition}
use Rattle.release_nets.proofs.Building.{built_more}
use Rattle.release_nets.proofs.derived.transitions.Goals as goal

pub loop-index-preserved : goal.loop-index-preserved
loop-index-preserved c =
    rw c.in_ok-push.ensures.items
    (built_more (IsDerivedTransition c.args.count) c.loop-index.index c.loop-index.transitions.items c.in_ok-made.made c.loop-index.invariant c.in_ok-made.ensures)
