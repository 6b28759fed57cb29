-- What a change of a holding time leaves of a net.
use Rattle.std.proofs.Common.{ℕ, ◌<◌, ◌≤◌, ◌≡◌, List, [], ◌∷◌, length, set, sym, ap, subst, ◌∙◌, ⊎_elim, refl}
use Rattle.std.specs.Prelude.{sum_by, IsTrue}
use Rattle.std.proofs.lemmas.List.Elements.{All-set}
use Rattle.std.proofs.lemmas.Bool.{cases_lt, cases_eq}
use Rattle.std.proofs.lemmas.List.Sums.{sum_by-cons}
use Rattle.std.proofs.lemmas.List.{get_or-set_other, get_or_read, length-set, set_past}
use Rattle.std.proofs.lemmas.Grind.{get_or-set_at}
use Rattle.teg_net.specs.declared.entries.Place.{Place}
use Rattle.teg_net.specs.declared.entries.PlaceId.{PlaceId}
use Rattle.teg_net.specs.declared.entries.Transition.{Transition}
use Rattle.teg_net.specs.declared.entries.InputList.{InputList}
use Rattle.teg_net.specs.Limits.{most_places}
use Rattle.teg_net.specs.Names.{is_name}
use Rattle.teg_net.specs.Nets.{NetLists, lists_of, IsPlaceOf, IsNet}
use Rattle.teg_net.specs.Circuits.{no_place, place_at, IsPathBetween, IsCircuit, tokens_of}
use Rattle.teg_net.proofs.NetRules.{place_along, input_along}
use Rattle.teg_net.specs.Changes.{MayHaveTokens, place_with_hold, place_with_tokens, with_hold, HoldsKeepPlaces, HoldsKeepCircuits, HoldsKeepLiveNets}
use Rattle.std.proofs.Common.{get_or}

-- what a new holding time leaves of each place, it leaves of the places of the net
pub kept :
    {X : Type 0} (part : Place → X) → ((hold : ℕ) (p : Place) → part (place_with_hold hold p) ≡ part p)
    → (net : NetLists) (id : PlaceId) (hold : ℕ) (p : PlaceId) → part (place_at (with_hold net id hold) p) ≡ part (place_at net p)
kept part same net id hold p =
    let changed : Place = place_with_hold hold (place_at net id) in
    ⊎_elim
    (λ (e : p.index ≡ id.index).
    ⊎_elim
    (λ (l : id.index < length net.places).
    ap part (get_or-set_at net.places id.index p.index changed no_place e l) ∙ (same hold (place_at net id) ∙ ap (λ k. part (get_or net.places k no_place)) (sym e)))
    (λ (l : length net.places ≤ id.index). ap (λ places. part (get_or places p.index no_place)) (set_past net.places id.index changed l))
    (cases_lt id.index (length net.places)))
    (λ other. ap part (get_or-set_other net.places id.index p.index changed no_place other))
    (cases_eq p.index id.index)

-- two nets with as many places, each between the same transitions
pub record HaveSameEnds (m n : NetLists) : Type 0 where
  pub count : length m.places ≡ length n.places
  pub from : (p : PlaceId) → (place_at m p).from ≡ (place_at n p).from
  pub to : (p : PlaceId) → (place_at m p).to ≡ (place_at n p).to

pub path_along : (m n : NetLists) → HaveSameEnds m n → (ps : List PlaceId) (a b : ℕ) → IsPathBetween m a ps b → IsPathBetween n a ps b
path_along m n s [] a b h = h
path_along m n s (p ∷ ps) a b h = (
  subst (λ count. p.index < count) s.count h.0,
  ap (λ t. t.index) (sym (s.from p)) ∙ h.1,
  subst (λ t. IsPathBetween n t ps b) (ap (λ t. t.index) (s.to p)) (path_along m n s ps (place_at m p).to.index b h.2),
)

pub circuit_along : (m n : NetLists) → HaveSameEnds m n → (ps : List PlaceId) → IsCircuit m ps → IsCircuit n ps
circuit_along m n s ps h = record {
  not_empty = h.not_empty;
  closed = (h.closed.0, path_along m n s ps h.closed.0 h.closed.0 h.closed.1);
  leaves_once = λ i j d before within same.
      h.leaves_once i j d before within (ap (λ t. t.index) (s.from (get_or ps i d)) ∙ (same ∙ ap (λ t. t.index) (sym (s.from (get_or ps j d)))));
}

same_sum : (f g : PlaceId → ℕ) → ((p : PlaceId) → f p ≡ g p) → (ps : List PlaceId) → sum_by f ps ≡ sum_by g ps
same_sum f g same [] = refl
same_sum f g same (p ∷ ps) = cc (same p, same_sum f g same ps, sum_by-cons f p ps, sum_by-cons g p ps)

forth : (net : NetLists) (id : PlaceId) (hold : ℕ) → HaveSameEnds (with_hold net id hold) net
forth net id hold = record {
  count = length-set net.places id.index (place_with_hold hold (place_at net id));
  from = kept (λ p. p.from) (λ h p. refl) net id hold;
  to = kept (λ p. p.to) (λ h p. refl) net id hold;
}

back : (net : NetLists) (id : PlaceId) (hold : ℕ) → HaveSameEnds net (with_hold net id hold)
back net id hold =
    let there = forth net id hold in
    record { count = sym there.count; from = λ p. sym (there.from p); to = λ p. sym (there.to p) }

pub holds_keep_places : HoldsKeepPlaces
holds_keep_places net id hold p =
    ((forth net id hold).from p, (forth net id hold).to p, kept (λ p. p.tokens) (λ h p. refl) net id hold p)

same_tokens : (net : NetLists) (id : PlaceId) (hold : ℕ) (ps : List PlaceId) → tokens_of (with_hold net id hold) ps ≡ tokens_of net ps
same_tokens net id hold ps =
    same_sum (λ p. (place_at (with_hold net id hold) p).tokens) (λ p. (place_at net p).tokens) (kept (λ p. p.tokens) (λ h p. refl) net id hold) ps

pub holds_keep_circuits : HoldsKeepCircuits
holds_keep_circuits net id hold ps =
    ((circuit_along (with_hold net id hold) net (forth net id hold) ps, circuit_along net (with_hold net id hold) (back net id hold) ps), same_tokens net id hold ps)

pub holds_keep_live_nets : HoldsKeepLiveNets
holds_keep_live_nets net id hold live ps circuit none =
    live ps (circuit_along (with_hold net id hold) net (forth net id hold) ps circuit) (sym (same_tokens net id hold ps) ∙ none)

-- ---- the rules of a net

-- the name at each number stays where the new place has that of the old
name_at :
    (places : List Place) (i : ℕ) (p q : Place) → i < length places → p ≡ get_or places i p → q.name ≡ p.name
    → (j : ℕ) (d : Place) → (get_or (set places i q) j d).name ≡ (get_or places j d).name
name_at places i p q l is same j d =
    ⊎_elim
    (λ (e : j ≡ i).
    ap (λ z. z.name) (get_or-set_at places i j q d e l) ∙ (same ∙ (ap (λ z. z.name) (get_or_read places i p l is d) ∙ ap (λ k. (get_or places k d).name) (sym e))))
    (λ other. ap (λ z. z.name) (get_or-set_other places i j q d other))
    (cases_eq j i)

-- a net with another place of the same name, which may stand in it, keeps the rules
pub rules_kept :
    (transitions : List Transition) (places : List Place) (inputs : List InputList) (i : ℕ) (p q : Place)
    → IsNet (lists_of transitions places inputs) → i < length places → p ≡ get_or places i p → q.name ≡ p.name
    → (IsPlaceOf (lists_of transitions places inputs) p → IsPlaceOf (lists_of transitions places inputs) q)
    → IsNet (lists_of transitions (set places i q) inputs)
rules_kept transitions places inputs i p q ok l is same may =
    let named : IsTrue (is_name p.name) = subst (λ z. IsTrue (is_name z.name)) (sym is) (ok.place_names i p l) in
    let here : IsPlaceOf (lists_of transitions places inputs) p = subst (IsPlaceOf (lists_of transitions places inputs)) (sym is) (ok.each_place i p l) in
    let along = place_along transitions places (set places i q) inputs inputs in
    let long : length (set places i q) ≡ length places = length-set places i q in
    record {
      some_transition = ok.some_transition;
      few_transitions = ok.few_transitions;
      few_places = subst (λ n. n ≤ most_places) (sym long) ok.few_places;
      transition_names = ok.transition_names;
      place_names = All-set (λ z. IsTrue (is_name z.name)) places i q (subst (λ n. IsTrue (is_name n)) (sym same) named) ok.place_names;
      distinct_transitions = ok.distinct_transitions;
      distinct_places = λ j k d before within equal.
          ok.distinct_places j k d before (subst (λ n. k < n) long within)
          (sym (name_at places i p q l is same j d) ∙ (equal ∙ name_at places i p q l is same k d));
      each_place = All-set (IsPlaceOf (lists_of transitions (set places i q) inputs)) places i q (along q (may here)) (λ j d m. along (get_or places j d) (ok.each_place j d m));
      one_list = ok.one_list;
      each_input = λ j d m. input_along transitions places (set places i q) inputs inputs (get_or inputs j d) (ok.each_input j d m);
    }

-- a place may have so many tokens
pub tokens_fit : (net : NetLists) (p : Place) (tokens : ℕ) → MayHaveTokens p tokens → IsPlaceOf net p → IsPlaceOf net (place_with_tokens tokens p)
tokens_fit net p tokens may h = record {
  from_in = h.from_in;
  to_in = h.to_in;
  enters_no_input = h.enters_no_input;
  hold_in = h.hold_in;
  tokens_in = may.few;
  ready_all = may.ready_all;
  ready_in = h.ready_in;
}
