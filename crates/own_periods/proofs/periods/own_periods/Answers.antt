use Rattle.std.proofs.Common.{arith, rules}
use Rattle.own_periods.proofs.Lists.{one_more}
use Rattle.own_periods.proofs.periods.own_periods.Goals as goal

pub loop-index-init : goal.loop-index-init
loop-index-init c = rw c.new-owns.ensures.items (record { count = search rules; each = λ t l. absurd (omega (arith, l)) })

pub loop-index-preserved : goal.loop-index-preserved
loop-index-preserved c =
    let own = rw c.in-Some.is at c.own_period.ensures in
    rw c.in_ok-push-in-Some.ensures.items
    (one_more c.args.rows.now c.loop-index.owns.items c.in-Some.own c.loop-index.index c.loop-index.invariant own)

pub returns : goal.returns
returns c =
    let h = c.loop-index.invariant in
    let end = c.loop-index-test.false in
    let most = c.loop-index.auto.index-end in
    let wide = c.width-index-end.ensures in
    record {
      count = (let count = h.count in omega (arith, count, end, most, wide));
      each = λ t l. h.each t (omega (arith, l, end, most, wide));
    }
