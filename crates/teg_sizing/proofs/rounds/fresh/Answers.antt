use Rattle.std.proofs.Common.{◌≡◌, length, get_or, sym, subst, arith}
use Rattle.std.proofs.lemmas.List.{get_or_default}
use Rattle.teg_sizing.specs.ValueRounds.{no_cell}
use Rattle.teg_sizing.proofs.Offers.{FreshUpTo, fresh_more, fresh_end}
use Rattle.teg_sizing.proofs.rounds.fresh.Goals as goal

pub loop-cell-preserved : goal.loop-cell-preserved
loop-cell-preserved c =
    rw c.in_ok-push.ensures.items (fresh_more c.args.before.now c.loop-cell.cells.items c.loop-cell.cell-index
    (get_or c.args.before.now c.loop-cell.cell-index no_cell) c.loop-cell.invariant c.loop-cell-test.true
    (sym (get_or_default c.args.before.now c.loop-cell.cell-index (get_or c.args.before.now c.loop-cell.cell-index no_cell) no_cell c.loop-cell-test.true)))

pub returns : goal.returns
returns c =
    let end : c.loop-cell.cell-index ≡ length c.args.before.now = omega (arith, c.loop-cell-test.false, c.loop-cell.auto.cell-index-end) in
    fresh_end c.args.before.now c.loop-cell.cells.items (subst (FreshUpTo c.args.before.now c.loop-cell.cells.items) end c.loop-cell.invariant)
