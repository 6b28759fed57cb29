use Rattle.std.proofs.Common.{arith}
use Rattle.series_ops.proofs.ScaleLaws.{split_code}
use Rattle.series_ops.proofs.Scales.{long_scale}
use Rattle.series_ops.proofs.cells.greatest_long.Goals as goal

pub loop-place-preserved : goal.loop-place-preserved
loop-place-preserved c =
    let more = c.loop-place-test.true in
    let inside = c.requires.at.first in
    let splits = c.requires.at.splits in
    let below = c.requires.at.second in
    split_code long_scale c.args.first.now c.args.second.now c.args.at.shift c.args.at.from c.loop-place.place _ c.max-best.result
    c.requires.cells c.requires.others (omega arith) (omega arith) c.max-best.ensures.value (record { sfits = c.max-best.type_inv }) c.loop-place.invariant
