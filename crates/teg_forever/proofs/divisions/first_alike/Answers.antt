use Rattle.std.proofs.Common.{arith}
use Rattle.teg_forever.proofs.Dividing.{alike_found, alike_itself}
use Rattle.teg_forever.proofs.Series.{got}
use Rattle.teg_forever.proofs.divisions.first_alike.Goals as goal

pub returns-then-are_alike : goal.returns-then-are_alike
returns-then-are_alike c =
    alike_found c.args.rows.now c.args.place c.loop-index.index c.index-rows-place.result c.index-rows-index.result (omega arith)
    (got c.args.rows.now c.args.place c.index-rows-place.result c.requires c.index-rows-place.is)
    (got c.args.rows.now c.loop-index.index c.index-rows-index.result (omega arith) c.index-rows-index.is)
    (c.are_alike.ensures c.if-are_alike.true)

pub returns : goal.returns
returns c = alike_itself c.args.rows.now c.args.place c.requires
