-- The loop of `by_turn`.
use Rattle.std.proofs.Common.{ℕ, ◌+◌, ◌<◌, ◌≤◌, ◌≡◌, List, [], ◌∷◌, ◌++◌, length, refl, ap, ◌∙◌, arith, ⊎_elim}
use Rattle.std.specs.Prelude.{All, Contains}
use Rattle.std.proofs.lemmas.Bool.{cases_lt}
use Rattle.std.proofs.lemmas.List.{length-append}
use Rattle.std.proofs.lemmas.List.Elements.{All-push, Contains-push, Contains-append_left}
use Rattle.teg_net.specs.Nets.{NetLists}
use Rattle.date_rows.specs.declared.order.OrderedPlace.{OrderedPlace}
use Rattle.date_rows.specs.PlaceOrder.{IsRankedPlace, turn_at}

pub record OrderUpTo (net : NetLists) (ranks : List ℕ) (order : List OrderedPlace) (i : ℕ) : Type 0 where
  pub once : length order ≡ i
  pub known : All (IsRankedPlace net ranks) order
  pub all : (k : ℕ) → k < i → Contains order (turn_at net ranks k)

pub order_more : (net : NetLists) (ranks : List ℕ) (order : List OrderedPlace) (i : ℕ) → OrderUpTo net ranks order i
    → i < length net.places → OrderUpTo net ranks (order ++ turn_at net ranks i ∷ []) (i + 1)
order_more net ranks order i h l = record {
  once = length-append order (turn_at net ranks i ∷ []) ∙ ap (λ n. n + 1) h.once;
  known = All-push (IsRankedPlace net ranks) order (turn_at net ranks i) h.known (record { place = record { in_range = l; from = refl; to = refl; tokens = refl; hold = refl }; turn = refl });
  all = λ k m. ⊎_elim
      (λ (q : k < i). Contains-append_left order (turn_at net ranks i ∷ []) (turn_at net ranks k) (h.all k q))
      (λ (q : i ≤ k). let is : k ≡ i = omega arith in rw is (Contains-push order (turn_at net ranks i)))
      (cases_lt k i);
}
