-- Paths without tokens: put together, and bounded by ranks.
use Rattle.std.proofs.Common.{ℕ, ◌+◌, ◌*◌, ◌<◌, ◌≤◌, ◌≡◌, List, [], ◌∷◌, ◌++◌, length, get_or, refl, ap, ◌∙◌, arith, ⊎_elim}
use Rattle.std.proofs.lemmas.Bool.{cases_lt}
use Rattle.std.proofs.lemmas.List.{get_or_past}
use Rattle.std.proofs.lemmas.List.Sums.{sum_by-cons, sum_by-append}
use Rattle.teg_net.specs.declared.entries.PlaceId.{PlaceId}
use Rattle.teg_net.specs.Nets.{NetLists, IsNet}
use Rattle.teg_net.specs.Circuits.{no_place, place_at, IsPathBetween, time_of, tokens_of}
use Rattle.teg_net.specs.Limits.{greatest_circuit_time, greatest_hold}
use Rattle.teg_net.proofs.PathLaws.{IsPathBetween-append}
use Rattle.teg_check.specs.Ranks.{IsRanking}
use Rattle.teg_form.specs.StandardForms.{IsTimeOfFreePath}

-- two paths without tokens put together
pub joined : (net : NetLists) (a b c s t : ℕ) → IsTimeOfFreePath net a b s → IsTimeOfFreePath net b c t → IsTimeOfFreePath net a c (s + t)
joined net a b c s t h k = record {
  places = h.places ++ k.places;
  path = IsPathBetween-append net h.places k.places a b c h.path k.path;
  no_tokens = sum_by-append (λ q. (place_at net q).tokens) h.places k.places ∙ omega (arith, h.no_tokens, k.no_tokens);
  is = omega (arith, h.is, k.is, sum_by-append (λ q. (place_at net q).hold) h.places k.places);
}

-- along a path without tokens the rank rises by the number of its places or more, and each takes at most the greatest hold
pub rises_along : (net : NetLists) (ranks : List ℕ) → IsNet net → IsRanking net ranks → (ps : List PlaceId) (a b : ℕ) → IsPathBetween net a ps b → tokens_of net ps ≡ 0
    → (get_or ranks a 0 + length ps ≤ get_or ranks b 0) × (time_of net ps ≤ greatest_hold * length ps)
rises_along net ranks ok r [] a b h t = (omega (arith, ap (λ x. get_or ranks x 0) h), omega arith)
rises_along net ranks ok r (p ∷ ps) a b h t =
    let s = sum_by-cons (λ q. (place_at net q).tokens) p ps in
    let w = sum_by-cons (λ q. (place_at net q).hold) p ps in
    let here : (place_at net p).tokens ≡ 0 = omega arith in
    let rest : tokens_of net ps ≡ 0 = omega arith in
    let step = r.rises p.index no_place h.0 here in
    let hold : (place_at net p).hold ≤ greatest_hold = (ok.each_place p.index no_place h.0).hold_in in
    let more = rises_along net ranks ok r ps (place_at net p).to.index b h.2 rest in
    (omega (arith, ap (λ x. get_or ranks x 0) h.1, step, more.0), omega (arith, w, hold, more.1))

pub rank_below : (net : NetLists) (ranks : List ℕ) → IsNet net → IsRanking net ranks → (a : ℕ) → get_or ranks a 0 < 400
rank_below net ranks ok r a = ⊎_elim
    (λ l. let s : get_or ranks a 0 < length net.transitions = r.small a 0 l in omega (arith, ok.few_transitions))
    (λ (l : length ranks ≤ a). omega (arith, get_or_past ranks a 0 l))
    (cases_lt a (length ranks))

pub time_below : (net : NetLists) (ranks : List ℕ) → IsNet net → IsRanking net ranks → (a b time : ℕ) → IsTimeOfFreePath net a b time → time ≤ greatest_circuit_time
time_below net ranks ok r a b time h =
    let w = rises_along net ranks ok r h.places a b h.path h.no_tokens in
    omega (arith, h.is, w.0, w.1, rank_below net ranks ok r b)

-- one place without tokens
pub one_place : (net : NetLists) (id : PlaceId) → id.index < length net.places → (place_at net id).tokens ≡ 0
    → IsTimeOfFreePath net (place_at net id).from.index (place_at net id).to.index (place_at net id).hold
one_place net id l z = record {
  places = id ∷ [];
  path = (l, refl, refl);
  no_tokens = omega (arith, z, sum_by-cons (λ q. (place_at net q).tokens) id []);
  is = omega (arith, sum_by-cons (λ q. (place_at net q).hold) id []);
}
