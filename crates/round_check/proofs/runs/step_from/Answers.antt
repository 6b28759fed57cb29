use Rattle.std.proofs.Common.{length}
use Rattle.round_check.proofs.Stepping.{spread_small, step_improves, step_marks}
use Rattle.round_check.proofs.runs.step_from.Goals as goal

pub better_policy-requires-clause-within : goal.better_policy-requires-clause-within
better_policy-requires-clause-within c =
    rw c.deref-2.ensures.value (spread_small (length c.args.part.now.parts.now) c.args.round.now c.in_ok-own.own c.requires.limits c.in_ok-own.ensures)

pub returns : goal.returns
returns c =
    let part = c.args.part.now in
    let r = c.args.round.now in
    let better = c.in_ok-policy.policy.items in
    record {
      count = c.in_ok-policy.ensures.count;
      count_marks = c.in_ok-marks.ensures.count;
      improves = step_improves part.net.now part.parts.now part.number r c.in_ok-own.own better c.in_ok-own.ensures
          (rw (c.deref.ensures.value, c.deref-2.ensures.value) at c.in_ok-policy.ensures.improves);
      marks = step_marks part.parts.now part.number r c.in_ok-own.own better c.in_ok-marks.marks.items c.in_ok-own.ensures
          (rw (c.deref-3.ensures.value, c.deref-4.ensures.value) at c.in_ok-marks.ensures.marks);
    }
