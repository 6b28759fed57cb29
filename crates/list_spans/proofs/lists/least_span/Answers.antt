use Rattle.std.proofs.Common.{refl, arith}
use Rattle.std.specs.Prelude.{◌-◌}
use Rattle.list_spans.specs.ListDates.{date_of_list}
use Rattle.list_spans.proofs.Spanning.{span_earlier}
use Rattle.list_spans.proofs.lists.least_span.Goals as goal

pub loop-span-preserved : goal.loop-span-preserved
loop-span-preserved c =
    let span = c.loop-span.span in
    let some = c.loop-span-test.true in
    span_earlier (date_of_list c.args.net.now c.args.list) span (record { after = span.after - 1; every = span.every; gap = span.gap })
    c.loop-span.invariant (omega arith) refl refl (c.goes_on.ensures c.if-goes_on.true)
