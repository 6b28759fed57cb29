use Rattle.std.proofs.Common.{arith}
use Rattle.run_rows.proofs.GoneOn.{rows_past}
use Rattle.run_rows.proofs.stretches.next_stretch.Goals as goal

pub jump-requires-clause-rows : goal.jump-requires-clause-rows
jump-requires-clause-rows c =
    let of = c.args.ranked.now in
    let extent = c.args.extent in
    let reached = c.args.reached.now in
    let rows = c.in_ok-rows.ensures.rows in
    rows_past of.net.now c.new-rows.ensures.rules of.live.now of.stands of.most of.one of.tokens reached.runs.runs reached.after rows.runs_late c.in_ok-rows.rows rows.least
    (omega (arith, c.in_ok-rows.ensures.count, c.stretch.invariant.stage_in, extent.last, c.requires.before))

pub returns-in-Some : goal.returns-in-Some
returns-in-Some c =
    let of = c.args.ranked.now in
    let extent = c.args.extent in
    let reached = c.args.reached.now in
    let rows = c.in_ok-rows.ensures.rows in
    let inv = c.stretch.invariant in
    let stage = inv.stage_in in
    let more = inv.stage_more (rw c.count.ensures.value at c.stretch-test.true) in
    let count = c.in_ok-rows.ensures.count in
    record {
      rows = rows_past of.net.now c.new-rows.ensures.rules of.live.now of.stands of.most of.one of.tokens reached.runs.runs reached.after rows.runs_late c.in_ok-rows.rows rows.least
          (omega (arith, count, stage, extent.last, c.requires.before));
      some = omega (arith, count, more);
      few = omega (arith, count, stage, c.requires.before);
      jump = rw c.in-Some.is at c.in_ok-run.ensures.jump;
      up_to = rw c.in-Some.is at c.in_ok-run.ensures.up_to;
    }

pub returns : goal.returns
returns c =
    let of = c.args.ranked.now in
    let extent = c.args.extent in
    let reached = c.args.reached.now in
    let inv = c.stretch.invariant in
    let within = inv.within in
    let all = rw c.count.ensures.value at c.stretch-test.false in
    record {
      rows = rows_past of.net.now c.new-rows.ensures.rules of.live.now of.stands of.most of.one of.tokens reached.runs.runs reached.after inv.rows.runs_late c.stretch.rows inv.rows.least
          (omega (arith, within, extent.last, c.requires.before));
      some = omega (arith, all, c.requires.before, extent.some);
      few = omega (arith, within, c.requires.before);
      jump = tt;
      up_to = tt;
    }
