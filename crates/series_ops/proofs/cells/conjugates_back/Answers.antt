use Rattle.std.proofs.Common.{◌∙◌, ap, arith}
use Rattle.series_ops.specs.Cells.{conjugates_reversed}
use Rattle.series_ops.proofs.LeftSplits.{turned_more}
use Rattle.series_ops.proofs.cells.conjugates_back.Goals as goal

pub loop-place-preserved : goal.loop-place-preserved
loop-place-preserved c =
    let more = c.loop-place-test.true in
    ap conjugates_reversed c.in_ok-push.ensures ∙ turned_more c.loop-place.cells c.args.dates.now c.loop-place.place c.conjugate.result (omega arith) c.loop-place.invariant c.conjugate.ensures
