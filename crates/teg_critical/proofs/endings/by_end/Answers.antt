use Rattle.std.proofs.Common.{◌≡◌, length, arith}
use Rattle.teg_critical.proofs.Ending.{endings_sorted}
use Rattle.teg_critical.proofs.endings.by_end.Goals as goal

pub returns : goal.returns
returns c =
    let end : c.loop-index.index ≡ length c.places-place-items.result.now = omega (arith, c.loop-index-test.false, c.loop-index.auto.index-end) in
    endings_sorted c.args.net.now c.args.losses.now c.loop-index.order.items _ c.loop-index.index c.loop-index.invariant
    (rw c.places-place-items.ensures.value at end) c.sort_unstable_by_key.ensures.permutation
