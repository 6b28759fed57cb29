use Rattle.std.proofs.Common.{arith}
use Rattle.dispatch.proofs.Bounds.{keeps_bounds}
use Rattle.dispatch.proofs.forecast.outlook.Goals as goal

pub with_next-requires-clause-bounded : goal.with_next-requires-clause-bounded
with_next-requires-clause-bounded c =
    rw c.net-in-loop-number.ensures.net
    (keeps_bounds c.args.held.now c.args.run.now c.args.now (rw c.net.ensures.net at c.rules.ensures) c.requires.dates c.requires.now)

pub with_next-requires-clause-rows : goal.with_next-requires-clause-rows
with_next-requires-clause-rows c = rw c.net-in-loop-number.ensures.net c.loop-number.invariant.1

pub loop-number-preserved : goal.loop-number-preserved
loop-number-preserved c = (omega (arith, c.in_ok-rows.ensures.count, c.loop-number.invariant.0), rw c.net-in-loop-number.ensures.net at c.in_ok-rows.ensures.rows)
