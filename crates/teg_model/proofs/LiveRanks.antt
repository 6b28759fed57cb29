-- A live net has ranks: the fewer places without tokens lead on from a transition, the higher its rank.
use Rattle.std.proofs.Common.{ℕ, zero, suc, ◌+◌, ◌-◌, ◌<◌, ◌≤◌, ◌≡◌, ◌≢◌, List, [], ◌∷◌, Bool, true, false, cond, eqb, ◌&&◌, length, get_or, map, take, refl, sym, subst, ◌∙◌, arith, ⊎_elim}
use Rattle.std.specs.Prelude.{AllPairs}
use Rattle.std.specs.List.{list_any, Any}
use Rattle.std.proofs.lemmas.Bool.{cases_Bool}
use Rattle.std.proofs.lemmas.Bool.Decides.{nat_tests, Decides-eqb}
use Rattle.std.proofs.lemmas.List.{get_or-take, get_or-map, length-take-le, length-map, get_or_default}
use Rattle.std.proofs.lemmas.List.Folds.{list_any_at, Any-from_list_any}
use Rattle.std.proofs.lemmas.List.Sums.{sum_by-cons, sum_by-take-drop}
use Rattle.std.proofs.lemmas.Map.Made.{IsDistinct-from_AllPairs}
use Rattle.std.proofs.lemmas.Map.Steps.{length-le_from_distinct_below}
use Rattle.teg_net.specs.declared.entries.PlaceId.{PlaceId}
use Rattle.teg_net.specs.declared.entries.Place.{Place}
use Rattle.teg_net.specs.Nets.{NetLists}
use Rattle.teg_net.specs.Circuits.{no_place, place_at, from_of, IsPathBetween, tokens_of, IsLive}
use Rattle.teg_net.proofs.PathLaws.{IsPathBetween-in_range}
use Rattle.teg_model.specs.LiveRanks.{AreRanks, IsRanked, HasEndsInRange}

-- ---- places without tokens never come back

first_id : PlaceId
first_id = record { index = 0 }

-- a path up to where its place at i begins
path_to : (net : NetLists) (ps : List PlaceId) (a b i : ℕ) (d : PlaceId) → IsPathBetween net a ps b → i < length ps → IsPathBetween net a (take i ps) (from_of net (get_or ps i d))
path_to net [] a b i d h l = absurd (omega arith)
path_to net (p ∷ ps) a b zero d h l = sym h.1
path_to net (p ∷ ps) a b (suc i) d h l = (h.0, h.1, path_to net ps (place_at net p).to.index b i d h.2 (omega arith))

abbrev LeavesOnce : NetLists → List PlaceId → Type 0
LeavesOnce net ps = AllPairs (λ p q. from_of net p ≢ from_of net q) ps

-- the places up to that one, with one more before them
once_more : (net : NetLists) (p : PlaceId) (ps : List PlaceId) (i : ℕ) → i ≤ length ps → LeavesOnce net ps
    → ((j : ℕ) (d : PlaceId) → j < i → from_of net p ≢ from_of net (get_or ps j d)) → LeavesOnce net (p ∷ take i ps)
once_more net p ps i within once apart zero zero d m n = absurd (omega arith)
once_more net p ps i within once apart zero (suc k) d m n =
    let long = length-take-le i ps within in
    let low : k < i = omega arith in
    rw (get_or-take i ps k d low) (apart k d low)
once_more net p ps i within once apart (suc j) zero d m n = absurd (omega arith)
once_more net p ps i within once apart (suc j) (suc k) d m n =
    let long = length-take-le i ps within in
    let low : k < i = omega arith in
    let lower : j < i = omega arith in
    rw (get_or-take i ps j d lower, get_or-take i ps k d low) (once j k d (omega arith) (omega arith))

tokens_to : (net : NetLists) (p : PlaceId) (ps : List PlaceId) (i : ℕ) → tokens_of net (p ∷ ps) ≡ 0 → tokens_of net (p ∷ take i ps) ≡ 0
tokens_to net p ps i e =
    let all = sum_by-cons (λ q. (place_at net q).tokens) p ps in
    let part = sum_by-cons (λ q. (place_at net q).tokens) p (take i ps) in
    omega (arith, sum_by-take-drop (λ q. (place_at net q).tokens) ps i)

-- a place before them begins elsewhere than each of them
apart_on : (net : NetLists) (p : PlaceId) (ps : List PlaceId) (a b : ℕ) → IsLive net → IsPathBetween net a (p ∷ ps) b → tokens_of net (p ∷ ps) ≡ 0 → LeavesOnce net ps
    → (n i : ℕ) (d : PlaceId) → i < n → i < length ps → from_of net p ≢ from_of net (get_or ps i d)
apart_on net p ps a b live h none once zero i d l m = absurd (omega arith)
apart_on net p ps a b live h none once (suc n) i d l m = λ e.
    let first : from_of net p ≡ a = h.1 in
    let closed : IsPathBetween net a (p ∷ take i ps) a = (
      h.0,
      h.1,
      subst (λ z. IsPathBetween net (place_at net p).to.index (take i ps) z) (sym e ∙ first)
          (path_to net ps (place_at net p).to.index b i d h.2 m),
    ) in
    live (p ∷ take i ps)
    (record {
      not_empty = omega arith;
      closed = (a, closed);
      leaves_once = once_more net p ps i (omega arith) once (λ j c o. apart_on net p ps a b live h none once n j c (omega arith) (omega arith));
    })
    (tokens_to net p ps i none)

once_with : (net : NetLists) (p : PlaceId) (ps : List PlaceId) → LeavesOnce net ps → ((i : ℕ) (d : PlaceId) → i < length ps → from_of net p ≢ from_of net (get_or ps i d)) → LeavesOnce net (p ∷ ps)
once_with net p ps once apart zero zero d m n = absurd (omega arith)
once_with net p ps once apart zero (suc k) d m n = apart k d (omega arith)
once_with net p ps once apart (suc j) zero d m n = absurd (omega arith)
once_with net p ps once apart (suc j) (suc k) d m n = once j k d (omega arith) (omega arith)

once_all : (net : NetLists) (ps : List PlaceId) (a b : ℕ) → IsLive net → IsPathBetween net a ps b → tokens_of net ps ≡ 0 → LeavesOnce net ps
once_all net [] a b live h none = λ j k d m n. absurd (omega arith)
once_all net (p ∷ ps) a b live h none =
    let all = sum_by-cons (λ q. (place_at net q).tokens) p ps in
    let rest : tokens_of net ps ≡ 0 = omega arith in
    let once = once_all net ps (place_at net p).to.index b live h.2 rest in
    once_with net p ps once (λ i d m. apart_on net p ps a b live h none once (suc i) i d (omega arith) m)

-- each of them begins at a transition of the net
from_below : (net : NetLists) (ps : List PlaceId) (a b q : ℕ) → HasEndsInRange net → IsPathBetween net a ps b → Any (λ x. eqb q x ≡ true) (map (from_of net) ps) → q < length net.transitions
from_below net ps a b q ok h any =
    let i : ℕ = any.0 in
    let long = length-map ps (from_of net) in
    let within : i < length ps = omega (arith, any.2) in
    let range = IsPathBetween-in_range net ps a b h i first_id within in
    let is : q ≡ any.1 = grind (arith, nat_tests, any.4) in
    let there : any.1 ≡ from_of net (get_or ps i first_id) = sym any.3 ∙ get_or-map (from_of net) ps i first_id any.1 within in
    let own = ok (get_or ps i first_id).index no_place range in
    rw (is ∙ there) own.0

-- so there are no more of them than transitions
path_short : (net : NetLists) (ps : List PlaceId) (a b : ℕ) → HasEndsInRange net → IsLive net → IsPathBetween net a ps b → tokens_of net ps ≡ 0 → length ps ≤ length net.transitions
path_short net ps a b ok live h none =
    let froms : List ℕ = map (from_of net) ps in
    let long = length-map ps (from_of net) in
    let apart : AllPairs (λ x y. x ≢ y) froms =
    λ j k d m n. rw (get_or-map (from_of net) ps j first_id d (omega arith), get_or-map (from_of net) ps k first_id d (omega arith)) (once_all net ps a b live h none j k first_id m (omega arith)) in
    let few = length-le_from_distinct_below froms (length net.transitions) (IsDistinct-from_AllPairs Decides-eqb froms apart)
    (λ q e. from_below net ps a b q ok h (Any-from_list_any (eqb q) froms e)) in
    omega (arith, few)

-- ---- how many such places lead on

-- whether a path of j places without tokens begins at the transition
leads_on : List Place → ℕ → ℕ → Bool
leads_on places zero t = true
leads_on places (suc j) t = list_any (λ p. eqb p.tokens 0 && (eqb p.from.index t && leads_on places j p.to.index)) places

-- the greatest such j up to n
depth : List Place → ℕ → ℕ → ℕ
depth places zero t = 0
depth places (suc n) t = cond (leads_on places (suc n) t) 1 0 + depth places n t

depth_below : (places : List Place) (n t : ℕ) → depth places n t ≤ n
unfolding depth
depth_below places zero t = omega arith
depth_below places (suc n) t =
    let less = depth_below places n t in
    ⊎_elim (λ (e : leads_on places (suc n) t ≡ true). rw e (omega arith)) (λ (e : leads_on places (suc n) t ≡ false). rw e (omega arith)) (cases_Bool (leads_on places (suc n) t))

-- a place without tokens leads one further on
leads_more : (places : List Place) (i j : ℕ) (d : Place) → i < length places → (get_or places i d).tokens ≡ 0
    → leads_on places j (get_or places i d).to.index ≡ true → leads_on places (suc j) (get_or places i d).from.index ≡ true
unfolding leads_on
leads_more places i j d l none e =
    let p : Place = get_or places i d in
    let no_tokens : eqb p.tokens 0 ≡ true = grind (arith, nat_tests) in
    let here : eqb p.from.index p.from.index ≡ true = grind (arith, nat_tests) in
    list_any_at (λ q. eqb q.tokens 0 && (eqb q.from.index p.from.index && leads_on places j q.to.index)) places i d l (rw (no_tokens, here, e) refl)

depth_more : (places : List Place) (i : ℕ) (d : Place) → i < length places → (get_or places i d).tokens ≡ 0 → (n : ℕ)
    → depth places n (get_or places i d).to.index + 1 ≤ depth places (suc n) (get_or places i d).from.index
unfolding depth leads_on
depth_more places i d l none zero = rw (leads_more places i 0 d l none refl) (omega arith)
depth_more places i d l none (suc n) =
    let p : Place = get_or places i d in
    let before = depth_more places i d l none n in
    ⊎_elim
    (λ (e : leads_on places (suc n) p.to.index ≡ true). rw (e, leads_more places i (suc n) d l none e) (omega arith))
    (λ (e : leads_on places (suc n) p.to.index ≡ false). rw e (omega arith))
    (cases_Bool (leads_on places (suc n) p.to.index))

-- where a path of j places leads on there is one
path_of : (net : NetLists) (j t : ℕ) → leads_on net.places j t ≡ true → (ps : List PlaceId) × (b : ℕ) × IsPathBetween net t ps b × (length ps ≡ j) × (tokens_of net ps ≡ 0)
unfolding leads_on
path_of net zero t e = ([], t, refl, refl, refl)
path_of net (suc j) t e =
    let a : Any (λ p. (eqb p.tokens 0 && (eqb p.from.index t && leads_on net.places j p.to.index)) ≡ true) net.places =
    Any-from_list_any (λ p. eqb p.tokens 0 && (eqb p.from.index t && leads_on net.places j p.to.index)) net.places e in
    let id : PlaceId = record { index = a.0 } in
    let p : Place = place_at net id in
    let is : p ≡ a.1 = get_or_default net.places a.0 no_place a.1 a.2 ∙ a.3 in
    let test : (eqb p.tokens 0 && (eqb p.from.index t && leads_on net.places j p.to.index)) ≡ true = rw is a.4 in
    let none : p.tokens ≡ 0 = grind (arith, nat_tests) in
    let from : p.from.index ≡ t = grind (arith, nat_tests) in
    let on : leads_on net.places j p.to.index ≡ true = grind (arith, nat_tests) in
    let rest = path_of net j p.to.index on in
    let all = sum_by-cons (λ q. (place_at net q).tokens) id rest.0 in
    (id ∷ rest.0, rest.1, (a.2, from, rest.2), omega (arith, rest.3), omega (arith, rest.4))

-- no rank of a transition reaches this
abbrev pub rank_bound : NetLists → ℕ
rank_bound net = suc (suc (length net.transitions))

-- the rank of a transition: the fewer places without tokens lead on from it, the higher
pub rank_in : NetLists → ℕ → ℕ
rank_in net t = suc (length net.transitions) - depth net.places (suc (length net.transitions)) t

pub ranks_in : (net : NetLists) → HasEndsInRange net → IsLive net → AreRanks net.places (rank_bound net) (rank_in net)
unfolding depth rank_in
ranks_in net ok live =
    let n : ℕ = length net.transitions in
    let end : (t : ℕ) → leads_on net.places (suc n) t ≡ false =
    λ t. ⊎_elim
    (λ (e : leads_on net.places (suc n) t ≡ true).
    let p = path_of net (suc n) t e in
    absurd (omega (arith, p.3, path_short net p.0 t p.1 ok live p.2 p.4)))
    (λ (e : leads_on net.places (suc n) t ≡ false). e)
    (cases_Bool (leads_on net.places (suc n) t)) in
    let same : (t : ℕ) → depth net.places (suc n) t ≡ depth net.places n t = λ t. rw (end t) (omega arith) in
    record {
      below = λ t. omega arith;
      rise = λ i d l none.
          let up = depth_more net.places i d l none n in
          let most = depth_below net.places (suc n) (get_or net.places i d).from.index in
          omega (arith, up, most, same (get_or net.places i d).to.index);
    }

-- ranks below two more than the number of transitions
pub live_ranks : (net : NetLists) → HasEndsInRange net → IsLive net → (rank : ℕ → ℕ) × AreRanks net.places (rank_bound net) rank
live_ranks net ok live = (rank_in net, ranks_in net ok live)

pub live_is_ranked : (net : NetLists) → HasEndsInRange net → IsLive net → IsRanked net
live_is_ranked net ok live = (rank_bound net, rank_in net, ranks_in net ok live)
