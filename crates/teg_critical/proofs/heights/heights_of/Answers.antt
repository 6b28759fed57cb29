use Rattle.std.proofs.Common.{◌≡◌, length, replicate, ap, ◌∙◌, arith, rules}
use Rattle.teg_net.proofs.Reading.{written_back}
use Rattle.teg_critical.specs.Heights.{AreHeights}
use Rattle.teg_critical.proofs.HeightLaws.{heights_begin, sum_low}
use Rattle.teg_critical.proofs.heights.heights_of.Goals as goal

pub rise-init : goal.rise-init
rise-init c =
    let filled : c.in_ok-heights.heights.items ≡ replicate (length c.transitions.result.now) 0 = c.in_ok-heights.ensures.items_if_clones_equal (search rules) in
    heights_begin c.args.net.now c.args.raised.now c.in_ok-heights.heights.items (filled ∙ ap (λ z. replicate (length z) 0) c.transitions.ensures.value)

pub rise-smaller : goal.rise-smaller
rise-smaller c =
    let are : AreHeights c.args.net.now c.args.raised.now c.lift.new.heights = c.lift.ensures.heights in
    let new = are.count in
    let old = c.rise.invariant.count in
    let vec = c.rise.heights.ok in
    let whole = written_back c.lift.new.heights c.rise.heights.items c.rise.heights.len (omega (arith, new, old, vec.0)) in
    let more = rw c.deref_mut.ensures.value at (c.lift.ensures.more c.rise-test.true) in
    let low = sum_low c.args.net.now c.args.raised.now c.requires.can c.lift.new.heights are in
    rw whole (omega (arith, more, low))
