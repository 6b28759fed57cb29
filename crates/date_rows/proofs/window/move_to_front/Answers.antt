use Rattle.std.proofs.Common.{◌≡◌, ◌*◌, ◌+◌, ◌-◌, arith}
use Rattle.date_rows.proofs.Cells.{rows_more}
use Rattle.date_rows.proofs.Columns.{column_moved}
use Rattle.date_rows.proofs.window.move_to_front.Goals as goal

pub loop-transition-preserved : goal.loop-transition-preserved
loop-transition-preserved c =
    let u = c.loop-transition.transition in
    let room = c.args.room in
    let reach = c.args.reach in
    let end = rows_more room u 1 in
    let copied = c.copy_within.ensures.by_index in
    let long : (u + 1) * room - ((u + 1) * room - reach) ≡ reach = omega (arith, end, c.requires.reach) in
    column_moved c.args.width reach room c.args.cells.now c.loop-transition.cells c.copy_within.new.self u ((u + 1) * room - reach) ((u + 1) * room - room)
    c.requires.reach c.loop-transition-test.true c.copy_within.ensures.len c.loop-transition.invariant (omega (arith, end)) (omega (arith, end, c.requires.reach))
    (rw long at copied.0) copied.1 (rw long at copied.2)
