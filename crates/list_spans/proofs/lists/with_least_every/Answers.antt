use Rattle.std.proofs.Common.{◌*◌, refl, arith}
use Rattle.std.specs.Prelude.{◌/◌}
use Rattle.list_spans.specs.ListDates.{date_of_list}
use Rattle.list_spans.proofs.Spanning.{span_again, shorter_gap}
use Rattle.list_spans.proofs.lists.with_least_every.Goals as goal

pub returns-then-goes_on_for : goal.returns-then-goes_on_for
returns-then-goes_on_for c =
    let span = c.span_of_list-span.result in
    let every = c.loop-every.every in
    let gap_in = c.span_of_list-span.ensures.gap_in in
    let less = shorter_gap span.gap every span.every (omega (arith, c.loop-every-test.true)) in
    span_again (date_of_list c.args.net.now c.args.list) span (record { after = span.after; every = every; gap = span.gap * every / span.every })
    c.span_of_list-span.ensures refl c.loop-every.auto.every (omega (arith, c.loop-every-test.true)) (omega (arith, less, gap_in)) (c.goes_on_for.ensures c.if-goes_on_for.true)
