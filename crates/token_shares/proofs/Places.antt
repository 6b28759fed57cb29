-- Places of a net of which one is another, and paths of places that two nets share.
use Rattle.std.proofs.Common.{ℕ, suc, ◌<◌, ◌≤◌, ◌≡◌, ◌≢◌, List, [], ◌∷◌, length, get_or, refl, sym, ap, subst, ◌∙◌, arith, ⊎_elim}
use Rattle.std.specs.Prelude.{All, sum_by}
use Rattle.std.proofs.lemmas.Bool.{cases_lt, cases_eq}
use Rattle.std.proofs.lemmas.List.{get_or-set_other, set_past}
use Rattle.std.proofs.lemmas.List.Elements.{All-tail}
use Rattle.std.proofs.lemmas.List.Sums.{sum_by-cons}
use Rattle.std.proofs.lemmas.Grind.{get_or-set_at}
use Rattle.teg_net.specs.declared.entries.Place.{Place}
use Rattle.teg_net.specs.declared.entries.PlaceId.{PlaceId}
use Rattle.teg_net.specs.Changes.{with_place}
use Rattle.teg_net.specs.Circuits.{no_place, place_at, from_of, IsPathBetween, IsCircuit, BeginsLowest}
use Rattle.teg_net.specs.Nets.{NetLists}

-- what the new place has of the old one, each place has
pub kept_at :
    {X : Type 0} (part : Place → X) (net : NetLists) (id : PlaceId) (new : Place) → part new ≡ part (place_at net id)
    → (p : PlaceId) → part (place_at (with_place net id new) p) ≡ part (place_at net p)
kept_at part net id new same p = ⊎_elim
    (λ (e : p.index ≡ id.index).
    ⊎_elim
    (λ (l : id.index < length net.places).
    ap part (get_or-set_at net.places id.index p.index new no_place e l) ∙ (same ∙ ap (λ k. part (get_or net.places k no_place)) (sym e)))
    (λ (l : length net.places ≤ id.index). ap (λ places. part (get_or places p.index no_place)) (set_past net.places id.index new l))
    (cases_lt id.index (length net.places)))
    (λ other. ap part (get_or-set_other net.places id.index p.index new no_place other))
    (cases_eq p.index id.index)

pub new_at : (net : NetLists) (id p : PlaceId) (new : Place) → id.index < length net.places → p.index ≡ id.index → place_at (with_place net id new) p ≡ new
new_at net id p new l e = get_or-set_at net.places id.index p.index new no_place e l

pub other_at : (net : NetLists) (id p : PlaceId) (new : Place) → p.index ≢ id.index → place_at (with_place net id new) p ≡ place_at net p
other_at net id p new other = get_or-set_other net.places id.index p.index new no_place other

-- ---- paths of places that two nets share

abbrev pub AreShared : NetLists → NetLists → List PlaceId → Type 0
AreShared a b ps = All (λ q. place_at a q ≡ place_at b q) ps

path_shared : (a b : NetLists) (ps : List PlaceId) (x y : ℕ) → length a.places ≡ length b.places → AreShared a b ps → IsPathBetween a x ps y → IsPathBetween b x ps y
path_shared a b [] x y e s h = h
path_shared a b (p ∷ ps) x y e s h =
    let own : place_at a p ≡ place_at b p = s 0 p (omega arith) in (
      subst (λ (n : ℕ). p.index < n) e h.0,
      ap (λ (z : Place). z.from.index) (sym own) ∙ h.1,
      subst (λ (z : Place). IsPathBetween b z.to.index ps y) own (path_shared a b ps (place_at a p).to.index y e (All-tail (λ q. place_at a q ≡ place_at b q) p ps s) h.2),
    )

pub circuit_shared : (a b : NetLists) (ps : List PlaceId) → length a.places ≡ length b.places → AreShared a b ps → IsCircuit a ps → IsCircuit b ps
circuit_shared a b ps e s h = record {
  not_empty = h.not_empty;
  closed = (h.closed.0, path_shared a b ps h.closed.0 h.closed.0 e s h.closed.1);
  leaves_once = λ i j d before within same.
      h.leaves_once i j d before within
      (ap (λ (z : Place). z.from.index) (s i d (omega arith)) ∙ (same ∙ ap (λ (z : Place). z.from.index) (sym (s j d within))));
}

-- numbers that are the same at each place have the same sum
pub sum_shared : (f g : PlaceId → ℕ) (ps : List PlaceId) → All (λ q. f q ≡ g q) ps → sum_by f ps ≡ sum_by g ps
sum_shared f g [] h = refl
sum_shared f g (p ∷ ps) h =
    let own : f p ≡ g p = h 0 p (omega arith) in
    let rest = sum_shared f g ps (All-tail (λ q. f q ≡ g q) p ps h) in
    let one = sum_by-cons f p ps in
    let two = sum_by-cons g p ps in
    cc

-- what leaves the same transitions begins lowest in both
pub lowest_shared : (a b : NetLists) (ps : List PlaceId) → All (λ q. from_of a q ≡ from_of b q) ps → BeginsLowest a ps → BeginsLowest b ps
lowest_shared a b [] s l = tt
lowest_shared a b (first ∷ ps) s l = λ i d m.
    let low = l i d m in
    let one : from_of a first ≡ from_of b first = s 0 first (omega arith) in
    let two : from_of a (get_or ps i d) ≡ from_of b (get_or ps i d) = s (suc i) d (omega arith) in
    subst (λ (n : ℕ). n ≤ from_of b (get_or ps i d)) one (subst (λ (n : ℕ). from_of a first ≤ n) two low)
