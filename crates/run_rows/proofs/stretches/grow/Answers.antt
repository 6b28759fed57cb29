use Rattle.std.proofs.Common.{arith}
use Rattle.run_rows.proofs.GoneOn.{past_keeps_bounds, start_keeps_short_bounds}
use Rattle.run_rows.proofs.stretches.grow.Goals as goal

pub with_next_in_cells-requires-clause-bounded : goal.with_next_in_cells-requires-clause-bounded
with_next_in_cells-requires-clause-bounded c =
    let of = c.args.ranked.now in
    let past = c.args.past.now in
    start_keeps_short_bounds of.net.now c.rules.ensures of.live.now of.stands of.most of.one of.tokens past.runs.now.runs past.after c.requires.rows.runs_late (omega arith)

pub with_next-requires-clause-bounded : goal.with_next-requires-clause-bounded
with_next-requires-clause-bounded c =
    let of = c.args.ranked.now in
    let past = c.args.past.now in
    past_keeps_bounds of.net.now c.rules.ensures of.live.now of.stands of.most of.one of.tokens past.runs.now.runs past.after c.requires.rows.runs_late past.few
