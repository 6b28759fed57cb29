-- The part of a net upstream of a transition keeps the rules of nets, and its ranks.
use Rattle.std.proofs.Common.{ℕ, ◌+◌, ◌≤◌, ◌≡◌, ◌≢◌, ◌<◌, Bool, true, false, cond, List, [], ◌∷◌, ◌++◌, filter, get_or, take, replicate, length, ap, ◌∙◌, arith}
use Rattle.std.specs.Prelude.{All, AllPairs, IsTrue}
use Rattle.std.proofs.lemmas.Bool.{cond_both}
use Rattle.std.proofs.lemmas.List.{append-nil, get_or-replicate}
use Rattle.std.proofs.lemmas.List.Elements.{All-filter, filter_more}
use Rattle.std.proofs.lemmas.List.Kept.{AllPairs-filter}
use Rattle.teg_net.specs.declared.entries.InputList.{InputList}
use Rattle.teg_net.specs.declared.entries.Place.{Place}
use Rattle.teg_net.specs.Names.{is_name}
use Rattle.teg_net.specs.Nets.{NetLists, IsNet, IsInputOf, IsPlaceOf}
use Rattle.teg_check.specs.Ranks.{IsRanking}
use Rattle.teg_upstream.specs.Parts.{IsClosedBack, ends_marked, feeds_marked, is_marked, marked_part}

filter_short : {X : Type 0} (p : X → Bool) (xs : List X) → length (filter p xs) ≤ length xs
filter_short p [] = omega arith
filter_short p (x ∷ xs) =
    let rest = filter_short p xs in
    cond_both (p x) (x ∷ filter p xs) (filter p xs) (λ ys. length ys ≤ length (x ∷ xs)) (λ _. omega (arith, rest)) (λ _. omega (arith, rest))

-- one element more that passes, or that does not
pub kept_more : {X : Type 0} (p : X → Bool) (xs : List X) (i : ℕ) (d : X) → i < length xs → p (get_or xs i d) ≡ true → filter p (take (i + 1) xs) ≡ filter p (take i xs) ++ get_or xs i d ∷ []
kept_more p xs i d l e = filter_more p xs i d l ∙ ap (λ b. filter p (take i xs) ++ cond b (get_or xs i d ∷ []) []) e

pub left_out : {X : Type 0} (p : X → Bool) (xs : List X) (i : ℕ) (d : X) → i < length xs → p (get_or xs i d) ≡ false → filter p (take (i + 1) xs) ≡ filter p (take i xs)
left_out p xs i d l e = filter_more p xs i d l ∙ (ap (λ b. filter p (take i xs) ++ cond b (get_or xs i d ∷ []) []) e ∙ append-nil (filter p (take i xs)))

-- marks of all transitions are closed
pub all_closed : (net : NetLists) (t : ℕ) (marks : List Bool) → IsNet net → t < length net.transitions → marks ≡ replicate (length net.transitions) true → IsClosedBack net t marks
all_closed net t marks ok l is =
    let at : (u : ℕ) → u < length net.transitions → is_marked marks u ≡ true = λ u m. ap (λ bs. is_marked bs u) is ∙ get_or-replicate (length net.transitions) u true false m in
    record { ends = at t l; comes = λ i d m _. at (get_or net.places i d).from.index (ok.each_place i d m).from_in }

module _ (net : NetLists) (marks : List Bool) where
  abbrev part : NetLists
  part = marked_part marks net

  place_in : (p : Place) → IsPlaceOf net p → IsPlaceOf (marked_part marks net) p
  place_in p r = record {
    from_in = r.from_in;
    to_in = r.to_in;
    enters_no_input = r.enters_no_input;
    hold_in = r.hold_in;
    tokens_in = r.tokens_in;
    ready_all = r.ready_all;
    ready_in = r.ready_in;
  }

  list_in : (l : InputList) → IsInputOf net l → IsInputOf (marked_part marks net) l
  list_in l r = record {
    is_input = r.is_input;
    few = r.few;
    dates_in = r.dates_in;
    never_falls = r.never_falls;
    again = r.again;
  }

  pub part_is_net : IsNet net → IsNet (marked_part marks net)
  part_is_net ok = record {
    some_transition = ok.some_transition;
    few_transitions = ok.few_transitions;
    few_places = omega (arith, ok.few_places, filter_short (ends_marked marks) net.places);
    transition_names = ok.transition_names;
    place_names = All-filter (ends_marked marks) (λ p. IsTrue (is_name p.name)) net.places ok.place_names;
    distinct_transitions = ok.distinct_transitions;
    distinct_places = AllPairs-filter (λ p q. p.name ≢ q.name) (ends_marked marks) net.places ok.distinct_places;
    each_place = All-filter (ends_marked marks) (IsPlaceOf (marked_part marks net)) net.places (λ i d l. place_in (get_or net.places i d) (ok.each_place i d l));
    one_list = AllPairs-filter (λ l m. l.transition.index ≢ m.transition.index) (feeds_marked marks) net.inputs ok.one_list;
    each_input = All-filter (feeds_marked marks) (IsInputOf (marked_part marks net)) net.inputs (λ i d l. list_in (get_or net.inputs i d) (ok.each_input i d l));
  }

  pub part_is_ranked : (ranks : List ℕ) → IsRanking net ranks → IsRanking (marked_part marks net) ranks
  part_is_ranked ranks r = record {
    count = r.count;
    small = r.small;
    rises = All-filter (ends_marked marks) (λ p. p.tokens ≡ 0 → get_or ranks p.from.index 0 < get_or ranks p.to.index 0) net.places r.rises;
  }
