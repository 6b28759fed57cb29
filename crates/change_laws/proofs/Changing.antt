-- What a change of a place makes of a net.
use Rattle.std.proofs.Common.{ℕ, ◌+◌, ◌-◌, ◌<◌, ◌≤◌, ◌≡◌, ◌≢◌, ◌++◌, length, get_or, set, refl, sym, ap, subst, ◌∙◌, ⊎_elim, arith}
use Rattle.std.proofs.lemmas.Bool.{cases_lt, cases_eq}
use Rattle.std.proofs.lemmas.List.{get_or-set_other, get_or_past, get_or_append_left, length-append, length-set, set_past}
use Rattle.std.proofs.lemmas.Grind.{get_or-set_at}
use Rattle.teg_net.specs.declared.entries.Place.{Place}
use Rattle.teg_net.specs.declared.entries.PlaceId.{PlaceId}
use Rattle.teg_net.specs.Nets.{NetLists, IsNet}
use Rattle.teg_net.specs.Circuits.{no_place, place_at}
use Rattle.teg_net.specs.ReadyDates.{ready_date}
use Rattle.teg_net.specs.Changes.{place_with_hold, place_with_tokens, with_place}
use Rattle.change_laws.specs.SlowerNets.{IsSlowerPlace, IsReadyNoLater, HasReadyDatesOfTokens, IsSlowerNet}
use Rattle.change_laws.specs.ChangesAreSlower.{LongerHoldsAreSlower, FewerTokensAreSlower, FurtherPlacesAreSlower, SlowerNetsAreOrdered, SlowerNetsHaveSlowerPlaces}

-- the second place is slower, and its tokens are ready no earlier
abbrev Slower : Place → Place → Type 0
Slower p q = IsSlowerPlace p q × IsReadyNoLater p q

slower_same : (p : Place) → Slower p p
slower_same p = (record { same_from = refl; same_to = refl; holds = omega arith; tokens = omega arith }, λ k o l. omega arith)

-- a relation between a place and what stands there after a change holds of each place, where it holds of equal ones
changed :
    (R : Place → Place → Type 0) → ((p : Place) → R p p) → (net : NetLists) (id : PlaceId) (new : Place) → R (place_at net id) new
    → (p : PlaceId) → R (place_at net p) (place_at (with_place net id new) p)
changed R same net id new h p =
    let Old : Place → Type 0 = λ z. R (place_at net p) z in
    ⊎_elim
    (λ (e : p.index ≡ id.index).
    ⊎_elim
    (λ (l : id.index < length net.places).
    let is : get_or (set net.places id.index new) p.index no_place ≡ new = get_or-set_at net.places id.index p.index new no_place e l in
    let here : R (place_at net p) new = rw e h in
    subst Old (sym is) here)
    (λ (l : length net.places ≤ id.index).
    let is : get_or (set net.places id.index new) p.index no_place ≡ place_at net p = ap (λ places. get_or places p.index no_place) (set_past net.places id.index new l) in
    subst Old (sym is) (same (place_at net p)))
    (cases_lt id.index (length net.places)))
    (λ (other : p.index ≢ id.index).
    let is : get_or (set net.places id.index new) p.index no_place ≡ place_at net p = get_or-set_other net.places id.index p.index new no_place other in
    subst Old (sym is) (same (place_at net p)))
    (cases_eq p.index id.index)

-- with a slower place in the stead of one the net is slower
forth : (net : NetLists) (id : PlaceId) (new : Place) → Slower (place_at net id) new → IsSlowerNet net (with_place net id new)
forth net id new h = record {
  transitions = refl;
  each = λ p l.
      let r = changed Slower slower_same net id new h p in
      let long : length (set net.places id.index new) ≡ length net.places = length-set net.places id.index new in
      (p, omega (arith, l, long), r.0, r.1);
}

-- and with a quicker one the net is slower than it
back : (net : NetLists) (id : PlaceId) (new : Place) → Slower new (place_at net id) → IsSlowerNet (with_place net id new) net
back net id new h = record {
  transitions = refl;
  each = λ p l.
      let r = changed (λ p q. Slower q p) slower_same net id new h p in
      let long : length (set net.places id.index new) ≡ length net.places = length-set net.places id.index new in
      (p, omega (arith, l, long), r.0, r.1);
}

pub longer_holds : LongerHoldsAreSlower
longer_holds = record {
  longer = λ net id hold l.
      forth net id (place_with_hold hold (place_at net id)) (record { same_from = refl; same_to = refl; holds = l; tokens = omega arith }, λ k o m. omega arith);
  shorter = λ net id hold l.
      back net id (place_with_hold hold (place_at net id)) (record { same_from = refl; same_to = refl; holds = l; tokens = omega arith }, λ k o m. omega arith);
}

pub fewer_tokens : FewerTokensAreSlower
fewer_tokens = record {
  fewer = λ net id tokens l.
      forth net id (place_with_tokens tokens (place_at net id)) (record { same_from = refl; same_to = refl; holds = omega arith; tokens = l }, λ k o m. omega arith);
  more = λ net id tokens l.
      back net id (place_with_tokens tokens (place_at net id)) (record { same_from = refl; same_to = refl; holds = omega arith; tokens = l }, λ k o m. omega arith);
}

pub further_places : FurtherPlacesAreSlower
further_places net places = record {
  transitions = refl;
  each = λ p l.
      let R : Place → Type 0 = λ z. Slower (place_at net p) z in
      let is : get_or (net.places ++ places) p.index no_place ≡ place_at net p = get_or_append_left net.places places no_place p.index l in
      let r : R (get_or (net.places ++ places) p.index no_place) = subst R (sym is) (slower_same (place_at net p)) in
      let long : length (net.places ++ places) ≡ length net.places + length places = length-append net.places places in
      (p, omega (arith, l, long), r.0, r.1);
}

-- no place of a net has more ready dates than tokens
pub ready_of_tokens : (net : NetLists) → IsNet net → HasReadyDatesOfTokens net
ready_of_tokens net ok i d l =
    let p : Place = get_or net.places i d in
    ⊎_elim (λ (e : length p.ready ≡ 0). omega (arith, e)) (λ (e : length p.ready ≡ p.tokens). omega (arith, e)) (ok.each_place i d l).ready_all

-- such a place has no token ready after 0 past its tokens
pub none_ready : (net : NetLists) → HasReadyDatesOfTokens net → (q : PlaceId) → q.index < length net.places → (k : ℕ) → (place_at net q).tokens < k → ready_date (place_at net q) k ≡ 0
none_ready net ready q l k m =
    let few = ready q.index no_place l in
    get_or_past (place_at net q).ready (k - 1) 0 (omega (arith, few, m))

chained : (net middle slower : NetLists) → HasReadyDatesOfTokens middle → IsSlowerNet net middle → IsSlowerNet middle slower → IsSlowerNet net slower
chained net middle slower ready h g = record {
  transitions = h.transitions ∙ g.transitions;
  each = λ p l.
      let a = h.each p l in
      let b = g.each a.0 a.1 in
      let one = a.2 in
      let two = b.2 in
      let holds_one = one.holds in
      let holds_two = two.holds in
      let tokens_one = one.tokens in
      let tokens_two = two.tokens in (
        b.0,
        b.1,
        record {
          same_from = one.same_from ∙ two.same_from;
          same_to = one.same_to ∙ two.same_to;
          holds = omega (arith, holds_one, holds_two);
          tokens = omega (arith, tokens_one, tokens_two);
        },
        λ k o m.
            let first = a.3 k o m in
            ⊎_elim
            (λ (n : (place_at middle a.0).tokens < k). let none = none_ready middle ready a.0 a.1 k n in omega (arith, first, none))
            (λ (n : k ≤ (place_at middle a.0).tokens). let second = b.3 k o n in omega (arith, first, second))
            (cases_lt (place_at middle a.0).tokens k),
      );
}

pub slower_ordered : SlowerNetsAreOrdered
slower_ordered = record {
  same = λ net. record { transitions = refl; each = λ p l. let r = slower_same (place_at net p) in (p, l, r.0, r.1) };
  chain = chained;
}

pub slower_places : SlowerNetsHaveSlowerPlaces
slower_places net slower h id l = let w = h.each id l in (w.0, w.1, w.2)
