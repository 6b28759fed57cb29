use Rattle.whatif.proofs.EachChange.{next_pace}
use Rattle.whatif.proofs.changes.paces_with.Goals as goal

pub loop-change-preserved : goal.loop-change-preserved
loop-change-preserved c =
    rw c.in_ok-push.ensures.items
    (next_pace c.args.held.now c.args.changes.now c.loop-change.change-index _ c.loop-change.paces.items c.in_ok-pace.pace c.loop-change-test.true c.loop-change.invariant
    c.in_ok-pace.ensures)
