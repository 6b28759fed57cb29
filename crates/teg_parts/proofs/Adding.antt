-- The places along which one may go from a transition, put after a list from the highest numbered down.
use Rattle.std.proofs.Common.{ℕ, zero, suc, ◌+◌, ◌-◌, ◌<◌, ◌≤◌, ◌≡◌, List, ◌++◌, length, get_or, refl, sym, subst, ◌∙◌, arith, ⊎_elim}
use Rattle.std.specs.Prelude.{AllPairs, reverse}
use Rattle.std.proofs.lemmas.Bool.{cases_lt}
use Rattle.std.proofs.lemmas.List.{length-append, length-reverse, get_or_append_left, get_or-append_right, get_or-reverse, get_or-append-add}
use Rattle.teg_net.specs.declared.entries.PlaceId.{PlaceId}
use Rattle.teg_net.specs.declared.places_of.PlaceEnd.{PlaceEnd}
use Rattle.teg_net.specs.Nets.{NetLists}
use Rattle.teg_net.specs.PlaceLists.{ListsPlacesAt}
use Rattle.teg_parts.specs.PlacesAlong.{near_of, AddsPlacesAlong}

-- in a list of rising numbers none is lower than its position
not_lower : (ids : List PlaceId) → AllPairs (λ p q. p.index < q.index) ids → (k : ℕ) (d : PlaceId) → k < length ids → k ≤ (get_or ids k d).index
not_lower ids h zero d l = omega arith
not_lower ids h (suc k) d l =
    let before = not_lower ids h k d (omega arith) in
    let more = h k (suc k) d (omega arith) l in
    omega arith

-- so that the net has no fewer places than the list
few_listed : (net : NetLists) (near : PlaceEnd) (t : ℕ) (ids : List PlaceId) → ListsPlacesAt net near t ids → length ids ≤ length net.places
few_listed net near t ids h =
    ⊎_elim
    (λ (q : 0 < length ids).
    let last : ℕ = length ids - 1 in
    let d : PlaceId = record { index = 0 } in
    let l : last < length ids = omega arith in
    let low = not_lower ids h.rising last d l in
    let high = h.known last d l in
    omega arith)
    (λ (q : length ids ≤ 0). omega arith)
    (cases_lt 0 (length ids))

pub added : (net : NetLists) (near : PlaceEnd) (t : ℕ) (old ids : List PlaceId) → ListsPlacesAt net near t ids → AddsPlacesAlong net near t old (old ++ reverse ids)
added net near t old ids h =
    let back : length (reverse ids) ≡ length ids = length-reverse ids in
    let long : length (old ++ reverse ids) ≡ length old + length ids = (let a = length-append old (reverse ids) in omega arith) in
    let few = few_listed net near t ids h in
    record {
      longer = omega arith;
      few = omega arith;
      kept = λ k d l. get_or_append_left old (reverse ids) d k l;
      each = λ k d l m.
          let i : ℕ = k - length old in
          let j : ℕ = length ids - 1 - i in
          let read : get_or (old ++ reverse ids) k d ≡ get_or ids j d = get_or-append_right old (reverse ids) (length old) k d refl l ∙ get_or-reverse ids i d (omega arith) in
          let in' : j < length ids = omega arith in
          subst (λ p. (p.index < length net.places) × (near_of near net p ≡ t)) (sym read) (h.known j d in', h.right j d in');
      all = λ p l e.
          let (j, in', is) = h.all p l e in
          let i : ℕ = length ids - 1 - j in
          let turned : length ids - 1 - i ≡ j = omega arith in
          let read : get_or (reverse ids) i p ≡ get_or ids j p = rw turned at (get_or-reverse ids i p (omega arith)) in
          (length old + i, omega arith, omega arith, get_or-append-add old (reverse ids) i p ∙ (read ∙ is));
    }
