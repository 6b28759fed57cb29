-- The places in an order that goes back.
use Rattle.std.proofs.Common.{ℕ, true, false, ◌+◌, ◌<◌, ◌≤◌, ◌≡◌, List, [], ◌∷◌, ◌++◌, length, get_or, refl, ap, ◌∙◌, arith, inr, ⊎_elim}
use Rattle.std.specs.Prelude.{All, Contains, Option, Some, None, IfNone, IsSome}
use Rattle.std.proofs.lemmas.Bool.{cases_lt, false≢true}
use Rattle.std.proofs.lemmas.List.{get_or_default, length-append}
use Rattle.std.proofs.lemmas.List.Elements.{All-push, All-tail, Contains-push, Contains-append_left}
use Rattle.std.proofs.lemmas.List.Sums.{sum_by-cons}
use Rattle.teg_net.specs.declared.entries.PlaceId.{PlaceId}
use Rattle.teg_net.specs.Circuits.{IsLive, from_of, place_at, tokens_of}
use Rattle.teg_net.specs.Parts.{to_of}
use Rattle.teg_net.specs.Nets.{NetLists}
use Rattle.witness_check.specs.Climbs.{Counts, HasCountedCircuit, RiseAlong}
use Rattle.dating_check.specs.declared.back_order.Placed.{Placed}
use Rattle.dating_check.specs.BackOrder.{IsBackOrder, IsPlaced, placed_at}

-- the first places, in the order of the net
pub record PlacedUpTo (net : NetLists) (ranks : List ℕ) (order : List Placed) (i : ℕ) : Type 0 where
  pub few : length order ≡ i
  pub known : All (IsPlaced net ranks) order
  pub all : (q : ℕ) → q < i → Contains order (placed_at net ranks q)

pub placed_more : (net : NetLists) (ranks : List ℕ) (order : List Placed) (i : ℕ) → PlacedUpTo net ranks order i → IsPlaced net ranks (placed_at net ranks i)
    → PlacedUpTo net ranks (order ++ placed_at net ranks i ∷ []) (i + 1)
placed_more net ranks order i h is = record {
  few = length-append order (placed_at net ranks i ∷ []) ∙ ap (λ n. n + 1) h.few;
  known = All-push (IsPlaced net ranks) order (placed_at net ranks i) h.known is;
  all = λ q m. ⊎_elim
      (λ (l : q < i). Contains-append_left order (placed_at net ranks i ∷ []) (placed_at net ranks q) (h.all q l))
      (λ (l : i ≤ q). let is : q ≡ i = omega arith in rw is (Contains-push order (placed_at net ranks i)))
      (cases_lt q i);
}

-- a place out of the end of one without tokens stands before it
pub stands_before : (net : NetLists) (ranks : List ℕ) (order : List Placed) (i : ℕ) (p q : PlaceId) (d : Placed) → RiseAlong net false ranks → IsBackOrder net ranks order
    → i < length order → (get_or order i d).place ≡ p → (place_at net p).tokens ≡ 0 → q.index < length net.places → from_of net q ≡ to_of net p
    → (c : ℕ) × (c < i) × ((e : Placed) → (get_or order c e).place ≡ q)
stands_before net ranks order i p q d rise back l is none q_in same =
    let held : Contains order (placed_at net ranks q.index) = back.all q.index q_in in
    let c : ℕ = held.0 in
    let known : IsPlaced net ranks (get_or order c d) = back.known c d (omega (arith, held.1)) in
    let here : IsPlaced net ranks (get_or order i d) = back.known i d l in
    let own : from_of net (get_or order i d).place ≡ from_of net p = ap (from_of net) is in
    let p_in : p.index < length net.places = rw is at here.in_range in
    let up : get_or ranks (from_of net p) 0 < get_or ranks (to_of net p) 0 = rise.rises p p_in (inr none) in
    let low : c < length order = omega (arith, held.1) in
    let at : (e : Placed) → get_or order c e ≡ placed_at net ranks q.index = λ e. get_or_default order c e (placed_at net ranks q.index) low ∙ held.2 in
    let there : (get_or order c d).place ≡ q = ap (λ z. z.place) (at d) in
    let rank : get_or ranks (from_of net (get_or order c d).place) 0 ≡ get_or ranks (to_of net p) 0 = ap (λ z. get_or ranks (from_of net z) 0) there ∙ ap (λ z. get_or ranks z 0) same in
    let rank_here : get_or ranks (from_of net (get_or order i d).place) 0 ≡ get_or ranks (from_of net p) 0 = ap (λ z. get_or ranks z 0) own in
    ⊎_elim
    (λ (low : c < i). (c, low, λ e. ap (λ z. z.place) (at e)))
    (λ (high : i ≤ c).
    let sorted = back.sorted i c d high (omega (arith, held.1)) in
    absurd (omega (arith, known.depth, here.depth, rank, rank_here, up, sorted)))
    (cases_lt c i)

-- ---- where there are such numbers

-- places without tokens have none together
none_together : (net : NetLists) (ps : List PlaceId) → All (λ p. Counts false (place_at net p)) ps → tokens_of net ps ≡ 0
none_together net [] h = refl
none_together net (p ∷ ps) h =
    let rest = none_together net ps (All-tail (λ q. Counts false (place_at net q)) p ps h) in
    let cons = sum_by-cons (λ q. (place_at net q).tokens) p ps in
    ⊎_elim
    (λ (e : false ≡ true). absurd (false≢true e))
    (λ (e : (place_at net p).tokens ≡ 0). omega (arith, rest, cons, e))
    (h 0 p (omega arith))

-- a live net has no circuit of them
no_circuit : (net : NetLists) → IsLive net → HasCountedCircuit net false → ⊥
no_circuit net live h = live h.0 h.1 (none_together net h.0 h.2)

-- so there are numbers
pub some_numbers : {V : Type 0} (net : NetLists) (found : Option V) → IsLive net → IfNone found (HasCountedCircuit net false) → IsSome found
some_numbers net (Some v) live h = refl
some_numbers net None live h = absurd (no_circuit net live h)
