use Rattle.std.proofs.Common.{◌+◌, ◌-◌, ◌≡◌, [], arith}
use Rattle.teg_check.proofs.Liveness.{ranking_is_live}
use Rattle.teg_due.specs.RowRules.{due_in}
use Rattle.teg_jit.proofs.Tight.{plan_is}
use Rattle.teg_jit.proofs.meeting.plan_for.Goals as goal

pub loop-done-init : goal.loop-done-init
loop-done-init c = record {
  full = (c.in_ok-dates.ensures []).full;
  settled = let is : c.args.last - 0 ≡ c.args.last = omega arith in rw is c.in_ok-dates.ensures;
}

pub pass_places-requires-clause-passed : goal.pass_places-requires-clause-passed
pass_places-requires-clause-passed c =
    let kept = c.requires.kept in
    let due = due_in c.args.rows.now in
    (due, c.pass_next.ensures.passed due c.loop-done.invariant.settled, (kept.0, kept.1.feasible, kept.2))

pub loop-done-preserved : goal.loop-done-preserved
loop-done-preserved c =
    let due = due_in c.args.rows.now in
    let is : c.args.last - (c.loop-done.done + 1) ≡ c.args.last - c.loop-done.done - 1 = omega arith in
    let settled = c.pass_places.ensures due (c.pass_next.ensures.passed due c.loop-done.invariant.settled) in
    record { full = (settled []).full; settled = rw is settled }

pub returns-clause-plan : goal.returns-clause-plan
returns-clause-plan c =
    let net = c.args.net.now in
    let due = due_in c.args.rows.now in
    let end : c.args.last - c.loop-done.done ≡ 0 = omega (arith, c.loop-done-test.false) in
    plan_is net due c.args.live.now c.args.last c.loop-done.dates c.new-2.result c.transitions-width.ensures.rules (ranking_is_live net c.args.live.now c.requires.stands) c.requires.stands
    (rw end at c.loop-done.invariant.settled)
    (rw (c.transitions-width.ensures.value, c.in_ok-dates-2.ensures) at c.new-2.ensures)
