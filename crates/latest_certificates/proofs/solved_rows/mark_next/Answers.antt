use Rattle.std.proofs.Common.{◌<◌, length}
use Rattle.latest_certificates.specs.SolvedRows.{IsNextTight}
use Rattle.latest_certificates.proofs.SolvedRows.{marked_on}
use Rattle.latest_certificates.proofs.solved_rows.mark_next.Goals as goal

pub loop-index-preserved : goal.loop-index-preserved
loop-index-preserved c =
    let told = c.args.told.now in
    let in' : c.loop-index.index < length told.net.transitions = rw c.width-index-end.ensures.value at c.loop-index-test.true in
    marked_on told c.loop-index.met (IsNextTight told c.args.number.now) c.loop-index.index c.comes_with_next.result in' c.loop-index.invariant c.comes_with_next.ensures
