use Rattle.std.proofs.Common.{ℕ, ◌≡◌, ◌≤◌, length, arith, rules}
use Rattle.std.proofs.lemmas.List.Sorted.{All-permutation, Contains-permutation, IsNonDecreasingBy-from_sort_by_key}
use Rattle.teg_form.specs.KeyOrder.{IsMarkedPlace, marked_at}
use Rattle.teg_form.proofs.order.by_source.Goals as goal

few_of : {n l i p : ℕ} → n ≡ l → l ≤ i → i ≤ p → n ≤ p
few_of e h k = omega (arith, e, h, k)

pub returns : goal.returns
returns c =
    let end = rw c.places-place-items.ensures.value at c.loop-index-test.false in
    let p = c.in_ok-sort_by_key.ensures.permutation in
    record {
      few = few_of (let e : length c.sort_by_key.new.self.items ≡ length c.loop-index.order.items =
          search rules in e) c.loop-index.invariant.few (rw c.places-place-items.ensures.value at c.loop-index.auto.index-end);
      known = All-permutation (IsMarkedPlace c.args.net.now) _ _ p c.loop-index.invariant.known;
      all = λ k l s. Contains-permutation _ _ (marked_at c.args.net.now k) p (c.loop-index.invariant.all k (omega arith) s);
      sorted = IsNonDecreasingBy-from_sort_by_key (λ m. m.key) _ c.in_ok-sort_by_key.ensures.sorted (λ a r q k. search rules);
    }
