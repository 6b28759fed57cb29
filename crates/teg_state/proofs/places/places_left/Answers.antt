use Rattle.std.proofs.Common.{◌≡◌, length, arith}
use Rattle.teg_state.proofs.LeftPlaces.{all_left, all_paid, left_more}
use Rattle.teg_state.proofs.places.places_left.Goals as goal

pub returns-clause-paid : goal.returns-clause-paid
returns-clause-paid c =
    let all : c.loop-index.index ≡ length c.args.net.now.places = omega (arith, c.loop-index-test.false, c.loop-index.auto.index-end, c.place_count-index-end.ensures) in
    all_paid c.args.net.now c.args.history.now.run c.args.now c.loop-index.places.items (rw all at c.loop-index.invariant)

pub returns-clause-left : goal.returns-clause-left
returns-clause-left c =
    let all : c.loop-index.index ≡ length c.args.net.now.places = omega (arith, c.loop-index-test.false, c.loop-index.auto.index-end, c.place_count-index-end.ensures) in
    all_left c.args.net.now c.args.history.now.run c.args.now c.loop-index.places.items (rw all at c.loop-index.invariant)

pub place_left-requires-clause-before : goal.place_left-requires-clause-before
place_left-requires-clause-before c = rw c.new.ensures c.loop-index.invariant.left

pub loop-index-preserved : goal.loop-index-preserved
loop-index-preserved c =
    rw c.in_ok-push.ensures.items
    (left_more c.args.net.now c.args.history.now.run c.args.now c.loop-index.index c.new.result c.loop-index.places.items c.in_ok-place_left.field-0 c.new.ensures (omega arith)
    c.loop-index.invariant c.in_ok-place_left.ensures.place c.in_ok-place_left.ensures.left)
