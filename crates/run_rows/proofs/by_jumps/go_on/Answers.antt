use Rattle.std.proofs.Common.{◌∙◌, arith}
use Rattle.run_rows.proofs.by_jumps.go_on.Goals as goal

pub loop-reached-preserved : goal.loop-reached-preserved
loop-reached-preserved c =
    let up_to = rw c.in-Some.is at c.in_ok-found.ensures.up_to in
    let past = c.in_ok-reached-in-Some.ensures in
    let end = rw c.in-Some.is at past.end in
    let room = c.room_left-room.ensures in
    record {
      reached = past.reached;
      all = past.all ∙ c.loop-reached.invariant.all;
      few = omega (arith, end, up_to);
      some = room.some;
      room = room.few;
    }
