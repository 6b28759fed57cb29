use Rattle.std.proofs.Common.{◌≡◌, ◌∙◌, length, get_or, arith, rules}
use Rattle.std.proofs.lemmas.List.{get_or_read}
use Rattle.std.proofs.lemmas.List.Sorted.{All-permutation, Contains-permutation, IsNonDecreasingBy-from_sort_by_key}
use Rattle.teg_net.specs.Circuits.{no_place}
use Rattle.date_rows.specs.PlaceOrder.{IsRankedPlace, turn_at}
use Rattle.date_rows.proofs.Sorting.{order_more}
use Rattle.date_rows.proofs.order.by_turn.Goals as goal

pub loop-index-preserved : goal.loop-index-preserved
loop-index-preserved c =
    let value = c.places-place-items.ensures.value in
    let l = rw value at c.loop-index-test.true in
    let read = get_or_read c.places-place-items.result.now c.loop-index.index c.place-item.result c.loop-index-test.true c.place-item.is no_place in
    let place : c.place-item.result ≡ get_or c.args.net.now.places c.loop-index.index no_place = rw value at read in
    rw (c.in_ok-push.ensures.items, c.turn_of.ensures, place) (order_more c.args.net.now c.args.live.now c.loop-index.order.items c.loop-index.index c.loop-index.invariant l)

pub returns : goal.returns
returns c =
    let end = rw c.places-place-items.ensures.value at c.loop-index-test.false in
    let p = c.in_ok-sort_by_key.ensures.permutation in
    let q = c.in_ok-sort_by_key-2.ensures.permutation in
    record {
      once =
          let e : length c.sort_by_key-2.new.self.items ≡ length c.loop-index.order.items = search rules in
          let end_is : c.loop-index.index ≡ length c.args.net.now.places = omega (arith, end, rw c.places-place-items.ensures.value at c.loop-index.auto.index-end) in
          e ∙ c.loop-index.invariant.once ∙ end_is;
      known = All-permutation (IsRankedPlace c.args.net.now c.args.live.now) _ _ q (All-permutation (IsRankedPlace c.args.net.now c.args.live.now) _ _ p c.loop-index.invariant.known);
      all = λ k l.
          let o = turn_at c.args.net.now c.args.live.now k in
          Contains-permutation _ _ o q (Contains-permutation _ _ o p (c.loop-index.invariant.all k (omega arith)));
      sorted = IsNonDecreasingBy-from_sort_by_key (λ o. o.turn) _ c.in_ok-sort_by_key-2.ensures.sorted (λ a r q k. search rules);
    }
