-- Nets of which some places are closed: circuits above a target avoid these.
use Rattle.std.proofs.Common.{ℕ, zero, suc, ◌+◌, ◌*◌, ◌<◌, ◌≡◌, ◌≢◌, List, [], ◌∷◌, length, get_or, refl, sym, ap, subst, ◌∙◌, arith, inl, ⊎_elim}
use Rattle.std.specs.Prelude.{All, Contains, slice_index}
use Rattle.std.proofs.lemmas.Bool.{cases_eq}
use Rattle.std.proofs.lemmas.List.{length-set, get_or_default}
use Rattle.std.proofs.lemmas.List.Elements.{All-tail, All-set}
use Rattle.teg_net.specs.declared.entries.Place.{Place}
use Rattle.teg_net.specs.declared.entries.PlaceId.{PlaceId}
use Rattle.teg_net.specs.Changes.{with_place}
use Rattle.teg_net.specs.Circuits.{no_place, place_at, from_of, IsPathBetween, time_of, tokens_of}
use Rattle.teg_net.specs.Nets.{NetLists, IsNet, IsPlaceOf}
use Rattle.teg_net.specs.Parts.{to_of}
use Rattle.teg_net.specs.Ratios.{Fraction}
use Rattle.teg_net.proofs.Changing.{rules_kept}
use Rattle.teg_net.proofs.Reading.{same_id}
use Rattle.teg_check.specs.Ranks.{IsRanking}
use Rattle.teg_loops.proofs.Through.{IsThrough, through}
use Rattle.token_shares.specs.BareNets.{HasNoDates, closed_place, with_closed}
use Rattle.token_shares.specs.TokenShares.{AvoidsAll, IsAbove, KeepsTarget, OthersKeep}
use Rattle.token_shares.proofs.Places.{new_at, other_at, AreShared, circuit_shared, sum_shared, lowest_shared}

-- the net with one place closed
abbrev pub after_closing : NetLists → PlaceId → NetLists
after_closing net p = with_place net p (closed_place (place_at net p))

abbrev InRange : NetLists → List PlaceId → Type 0
InRange net places = All (λ p. p.index < length net.places) places

count_one : (net : NetLists) (p : PlaceId) → length (after_closing net p).places ≡ length net.places
count_one net p = length-set net.places p.index (closed_place (place_at net p))

range_after : (net : NetLists) (p : PlaceId) (places : List PlaceId) → InRange net (p ∷ places) → InRange (after_closing net p) places
range_after net p places r = subst (λ (n : ℕ). All (λ q. q.index < n) places) (sym (count_one net p)) (All-tail (λ q. q.index < length net.places) p places r)

pub count_closed : (net : NetLists) (places : List PlaceId) → length (with_closed net places).places ≡ length net.places
count_closed net [] = refl
count_closed net (p ∷ places) = count_closed (after_closing net p) places ∙ count_one net p

-- ---- places

-- others stay as they are
apart_stays : (net : NetLists) (places : List PlaceId) (q : PlaceId) → All (λ p. q.index ≢ p.index) places → place_at (with_closed net places) q ≡ place_at net q
apart_stays net [] q apart = refl
apart_stays net (p ∷ places) q apart =
    apart_stays (after_closing net p) places q (All-tail (λ x. q.index ≢ x.index) p places apart)
    ∙ other_at net p q (closed_place (place_at net p)) (apart 0 p (omega arith))

-- the place leads back to its end at once
pub record IsShut (p : Place) : Type 0 where
  pub back : p.from.index ≡ p.to.index
  pub hold : p.hold ≡ 0

shut_stays : (net : NetLists) (places : List PlaceId) (q : PlaceId) → InRange net places → IsShut (place_at net q) → IsShut (place_at (with_closed net places) q)
shut_stays net [] q r h = h
shut_stays net (p ∷ places) q r h =
    shut_stays (after_closing net p) places q (range_after net p places r)
    (⊎_elim
    (λ (e : q.index ≡ p.index). subst IsShut (sym (new_at net p q (closed_place (place_at net p)) (r 0 p (omega arith)) e)) (record { back = refl; hold = refl }))
    (λ (ne : q.index ≢ p.index). subst IsShut (sym (other_at net p q (closed_place (place_at net p)) ne)) h)
    (cases_eq q.index p.index))

pub shut : (net : NetLists) (places : List PlaceId) → InRange net places → All (λ p. IsShut (place_at (with_closed net places) p)) places
shut net [] r i d l = absurd (omega arith)
shut net (p ∷ places) r zero d l =
    shut_stays (after_closing net p) places p (range_after net p places r)
    (subst IsShut (sym (new_at net p p (closed_place (place_at net p)) (r 0 p (omega arith)) refl)) (record { back = refl; hold = refl }))
shut net (p ∷ places) r (suc i) d l = shut (after_closing net p) places (range_after net p places r) i d (omega arith)

-- ---- circuits

-- a circuit that passes such a place has no other, and no time
passes_none : (net : NetLists) (r : Fraction) (p : PlaceId) (ps : List PlaceId) → IsShut (place_at net p) → IsAbove net r ps → Contains ps p → ⊥
passes_none net r p ps s a has =
    let t : IsThrough net p ps = through net p ps a.circuit has in
    alone t.others t.path t.once (t.same (λ q. (place_at net q).hold)) where
      alone : (others : List PlaceId) → IsPathBetween net (to_of net p) others (from_of net p) → All (λ q. from_of net p ≢ from_of net q) others
          → time_of net ps ≡ (place_at net p).hold + time_of net others → ⊥
      alone [] path once time =
          let above = a.above in
          let none : time_of net ps ≡ 0 = time ∙ (let h = s.hold in omega arith) in
          let still : time_of net ps * r.tokens ≡ 0 = ap (λ (n : ℕ). n * r.tokens) none ∙ (grind arith) in
          absurd (omega arith)
      alone (q ∷ others) path once time = once 0 q (omega arith) (s.back ∙ sym path.1)

-- so one above the target avoids them
pub avoids_closed : (net : NetLists) (r : Fraction) (places ps : List PlaceId) → InRange net places → IsAbove (with_closed net places) r ps → AvoidsAll places ps
avoids_closed net r places ps range a = λ i d l. passes_none (with_closed net places) r (get_or places i d) ps (shut net places range i d l) a

-- the places of a path that avoids them are those of the net
shared : (net : NetLists) (places ps : List PlaceId) → AvoidsAll places ps → AreShared (with_closed net places) net ps
shared net places ps off = λ i d l.
    apart_stays net places (get_or ps i d)
    (λ j e m same. off j e m (i, l, get_or_default ps i (get_or places j e) d l ∙ same_id (get_or ps i d) (get_or places j e) same))

back : (a b : NetLists) (ps : List PlaceId) → AreShared a b ps → AreShared b a ps
back a b ps s = λ i d l. sym (s i d l)

same_time : (a b : NetLists) (ps : List PlaceId) → AreShared a b ps → time_of a ps ≡ time_of b ps
same_time a b ps s = sum_shared (λ q. (place_at a q).hold) (λ q. (place_at b q).hold) ps (λ i d l. ap (λ (z : Place). z.hold) (s i d l))

same_tokens : (a b : NetLists) (ps : List PlaceId) → AreShared a b ps → tokens_of a ps ≡ tokens_of b ps
same_tokens a b ps s = sum_shared (λ q. (place_at a q).tokens) (λ q. (place_at b q).tokens) ps (λ i d l. ap (λ (z : Place). z.tokens) (s i d l))

pub above_closed : (net : NetLists) (r : Fraction) (places ps : List PlaceId) → InRange net places → IsAbove (with_closed net places) r ps → IsAbove net r ps
above_closed net r places ps range a =
    let there : NetLists = with_closed net places in
    let s : AreShared there net ps = shared net places ps (avoids_closed net r places ps range a) in
    record {
      circuit = circuit_shared there net ps (count_closed net places) s a.circuit;
      lowest = lowest_shared there net ps (λ i d l. ap (λ (z : Place). z.from.index) (s i d l)) a.lowest;
      above = rw (same_time there net ps s, same_tokens there net ps s) at a.above;
    }

-- and where none is above it, no circuit that avoids them is
pub others_closed : (net : NetLists) (r : Fraction) (places : List PlaceId) → KeepsTarget (with_closed net places) r → OthersKeep net r places
others_closed net r places k ps c off =
    let there : NetLists = with_closed net places in
    let s : AreShared there net ps = shared net places ps off in
    let low = k ps (circuit_shared net there ps (sym (count_closed net places)) (back there net ps s) c) in
    rw (same_time there net ps s, same_tokens there net ps s) at low

-- ---- rules and ranks

fits : (net : NetLists) (p : Place) → p.ready ≡ [] → IsPlaceOf net p → IsPlaceOf net (closed_place p)
fits net p none h = record {
  from_in = h.to_in;
  to_in = h.to_in;
  enters_no_input = h.enters_no_input;
  hold_in = omega arith;
  tokens_in = omega arith;
  ready_all = inl (ap (λ (ds : List ℕ). length ds) none);
  ready_in = h.ready_in;
}

pub rules_closed : (net : NetLists) (places : List PlaceId) → InRange net places → HasNoDates net → IsNet net → IsNet (with_closed net places)
rules_closed net [] r none ok = ok
rules_closed net (p ∷ places) r none ok =
    let l : p.index < length net.places = r 0 p (omega arith) in
    let own : (place_at net p).ready ≡ [] = none p.index no_place l in
    rules_closed (after_closing net p) places (range_after net p places r)
    (All-set (λ (z : Place). z.ready ≡ []) net.places p.index (closed_place (place_at net p)) own none)
    (rules_kept net.transitions net.places net.inputs p.index (place_at net p) (closed_place (place_at net p)) ok l (get_or_default net.places p.index no_place (place_at net p) l) refl
    (fits net (place_at net p) own))

pub ranking_closed : (net : NetLists) (ranks : List ℕ) (places : List PlaceId) → IsRanking net ranks → IsRanking (with_closed net places) ranks
ranking_closed net ranks [] h = h
ranking_closed net ranks (p ∷ places) h = ranking_closed (after_closing net p) ranks places (record {
  count = h.count;
  small = h.small;
  rises = All-set (λ (z : Place). z.tokens ≡ 0 → slice_index ranks z.from.index < slice_index ranks z.to.index) net.places p.index
      (closed_place (place_at net p)) (λ none. absurd (omega arith)) h.rises;
})
