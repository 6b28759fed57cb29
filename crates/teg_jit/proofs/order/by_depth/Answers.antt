use Rattle.std.proofs.Common.{◌≡◌, get_or, arith, rules}
use Rattle.std.proofs.lemmas.List.{get_or_read}
use Rattle.std.proofs.lemmas.List.Sorted.{All-permutation, Contains-permutation, IsNonDecreasingBy-from_sort_by_key}
use Rattle.teg_net.specs.Circuits.{no_place}
use Rattle.teg_jit.specs.BackwardOrder.{IsDepth, depth_at}
use Rattle.teg_jit.proofs.Sorting.{order_more}
use Rattle.teg_jit.proofs.order.by_depth.Goals as goal

pub loop-index-preserved : goal.loop-index-preserved
loop-index-preserved c =
    let value = c.places-place-items.ensures.value in
    let l = rw value at c.loop-index-test.true in
    let read = get_or_read c.places-place-items.result.now c.loop-index.index c.place-item.result c.loop-index-test.true c.place-item.is no_place in
    let place : c.place-item.result ≡ get_or c.args.net.now.places c.loop-index.index no_place = rw value at read in
    rw (c.in_ok-push.ensures.items, c.rank.ensures.rank, place, c.transitions.ensures.value)
    (order_more c.args.net.now c.args.live.now c.loop-index.order.items c.loop-index.index c.loop-index.invariant l)

pub returns : goal.returns
returns c =
    let end = rw c.places-place-items.ensures.value at c.loop-index-test.false in
    let p = c.in_ok-sort_by_key.ensures.permutation in
    record {
      known = All-permutation (IsDepth c.args.net.now c.args.live.now) _ _ p c.loop-index.invariant.known;
      all = λ k l. Contains-permutation _ _ (depth_at c.args.net.now c.args.live.now k) p (c.loop-index.invariant.all k (omega arith));
      sorted = IsNonDecreasingBy-from_sort_by_key (λ o. o.depth) _ c.in_ok-sort_by_key.ensures.sorted (λ a r q k. search rules);
    }
