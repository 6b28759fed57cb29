use Rattle.std.proofs.Common.{◌-◌, ◌≡◌, ◌<◌, length, arith, rules}
use Rattle.std.proofs.lemmas.List.Sorted.{All-permutation, Contains-permutation, IsNonDecreasingBy-from_sort_by_key}
use Rattle.teg_net.specs.declared.entries.PlaceId.{PlaceId}
use Rattle.teg_net.specs.Circuits.{from_of, place_at}
use Rattle.teg_net.proofs.Reading.{read_place}
use Rattle.dating_check.specs.BackOrder.{IsPlaced, placed_at}
use Rattle.dating_check.proofs.BackOrder.{placed_more}
use Rattle.dating_check.proofs.back_order.places_back.Goals as goal

pub loop-index-preserved : goal.loop-index-preserved
loop-index-preserved c =
    let net = c.args.net.now in
    let ranks = c.args.ranks.now in
    let i = c.loop-index.index in
    let id : PlaceId = record { index = i } in
    let l : i < length net.places = rw c.places-place-items.ensures.value at c.loop-index-test.true in
    let item : c.place-item.result ≡ place_at net id = read_place net c.places-place-items.result.now id c.place-item.result c.places-place-items.ensures.value l c.place-item.is in
    let fits = c.type_inv.ranks (from_of net id) in
    let placed : IsPlaced net ranks (placed_at net ranks i) = record { in_range = l; depth = omega (arith, fits) } in
    rw (c.in_ok-push.ensures.items, c.index.ensures, c.new.ensures, item) (placed_more net ranks c.loop-index.order.items i c.loop-index.invariant placed)

pub returns-clause-back : goal.returns-clause-back
returns-clause-back c =
    let end = rw c.places-place-items.ensures.value at c.loop-index-test.false in
    let p = c.in_ok-sort_by_key.ensures.permutation in
    record {
      known = All-permutation (IsPlaced c.args.net.now c.args.ranks.now) _ _ p c.loop-index.invariant.known;
      all = λ k l. Contains-permutation _ _ (placed_at c.args.net.now c.args.ranks.now k) p (c.loop-index.invariant.all k (omega arith));
      sorted = IsNonDecreasingBy-from_sort_by_key (λ o. o.depth) _ c.in_ok-sort_by_key.ensures.sorted (λ a r q k. search rules);
    }
