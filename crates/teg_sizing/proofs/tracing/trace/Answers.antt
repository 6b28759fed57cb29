use Rattle.std.proofs.Common.{◌≡◌, sym, arith}
use Rattle.teg_sizing.proofs.Traces.{trace_by, trace_on}
use Rattle.teg_sizing.proofs.tracing.trace.Goals as goal

pub loop-number-preserved-in-Some : goal.loop-number-preserved-in-Some
loop-number-preserved-in-Some c =
    let h = c.loop-number.invariant in
    let low = h.1 in
    rw (c.start_of-at.ensures.start, c.in_ok-push.ensures.items) (
      rw c.start_of-at.ensures.start at c.start_of-at.ensures.in_range,
      omega arith,
      trace_by c.args.net.now c.args.rounds.now c.loop-number.number c.loop-number.at c.in-Some.id c.loop-number.places.items _ c.loop-number-test.true (sym c.in-Some.ensures.by) h.2,
    )

pub loop-number-preserved : goal.loop-number-preserved
loop-number-preserved c =
    let h = c.loop-number.invariant in
    let low = h.1 in
    (h.0, omega arith, trace_on c.args.net.now c.args.rounds.now c.loop-number.number c.loop-number.at c.loop-number.places.items _ c.loop-number-test.true (sym c.in_default.ensures.by) h.2)

pub returns : goal.returns
returns c =
    let zero_is : c.loop-number.number ≡ 0 = omega (arith, c.loop-number-test.false) in
    let h = rw zero_is at c.loop-number.invariant.2 in
    rw c.reverse.ensures.items (sym h)
