use Rattle.teg_net.proofs.WalkLaws.{IsWalk-start, WalksWithin-end}
use Rattle.teg_net.proofs.walks.walk_end.Goals as goal

pub steps_end-requires : goal.steps_end-requires
steps_end-requires c = IsWalk-start c.args.net.now c.args.walk.now c.requires

pub returns-clause-number : goal.returns-clause-number
returns-clause-number c =
    WalksWithin-end c.args.net.now c.deref.result.now c.args.walk.now.start.index c.args.walk.now.number c.unwrap.result.0.index c.unwrap.result.1 (rw c.unwrap.ensures at c.steps_end.ensures.end)
