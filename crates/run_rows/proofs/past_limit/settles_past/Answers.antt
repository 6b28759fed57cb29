use Rattle.std.proofs.Common.{arith}
use Rattle.run_rows.proofs.past_limit.settles_past.Goals as goal

pub loop-reached-preserved : goal.loop-reached-preserved
loop-reached-preserved c = record {
  reached = c.in_ok-reached-in-Some.ensures.reached;
  room = omega (arith, c.loop-reached.invariant.room, c.saturating_sub-room.ensures);
}
