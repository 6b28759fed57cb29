use Rattle.std.proofs.Common.{arith}
use Rattle.run_rows.proofs.GoneOn.{rows_at_start}
use Rattle.run_rows.proofs.by_jumps.date_past_rows.Goals as goal

pub jump-requires-clause-rows : goal.jump-requires-clause-rows
jump-requires-clause-rows c =
    rows_at_start c.args.net.now c.rules.ensures c.args.live.now c.requires.stands c.args.rows.now c.requires.rows (omega (arith, c.requires.past, c.requires.last))

pub past-requires-clause-rows : goal.past-requires-clause-rows
past-requires-clause-rows c =
    rows_at_start c.args.net.now c.rules.ensures c.args.live.now c.requires.stands c.args.rows.now c.requires.rows (omega (arith, c.requires.past, c.requires.last))
