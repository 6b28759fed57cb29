-- The rules of nets, kept by lists with one more entry.
use Rattle.std.proofs.Common.{ℕ, ◌<◌, ◌≡◌, ◌≢◌, List, [], ◌∷◌, ◌++◌, Bool, true, false, length, get_or, zero, suc, sym, subst, arith}
use Rattle.std.specs.Prelude.{AllPairs, Any, IsSomeAnd, IsTrue, if◌then◌else◌, slice_get}
use Rattle.std.proofs.lemmas.List.{get_or_default, length_push}
use Rattle.std.proofs.lemmas.List.Elements.{All-push}
use Rattle.std.proofs.lemmas.List.Quantifiers.{all_pairs_push}
use Rattle.teg_net.specs.declared.entries.InputList.{InputList}
use Rattle.teg_net.specs.declared.entries.Place.{Place}
use Rattle.teg_net.specs.declared.entries.Transition.{Transition}
use Rattle.teg_net.specs.Limits.{most_places, most_transitions}
use Rattle.teg_net.specs.Names.{is_name}
use Rattle.teg_net.specs.Nets.{IsNet, IsPlaceOf, IsInputOf, lists_of, transitions_alone}
use Rattle.teg_net.proofs.NetRules.{place_along, input_along}

-- what is at a number stays there where the list grows
some_stays : {X : Type 0} (P : X → Type 0) (xs : List X) (x : X) (k : ℕ) → IsSomeAnd (slice_get xs k) P → IsSomeAnd (slice_get (xs ++ x ∷ []) k) P
some_stays P [] x k h = absurd h
some_stays P (y ∷ ys) x zero h = h
some_stays P (y ∷ ys) x (suc k) h = some_stays P ys x k h

-- what is at a number of the list was there before it grew
some_back : {X : Type 0} (P : X → Type 0) (xs : List X) (x : X) (k : ℕ) → k < length xs → IsSomeAnd (slice_get (xs ++ x ∷ []) k) P → IsSomeAnd (slice_get xs k) P
some_back P [] x k l h = absurd (omega arith)
some_back P (y ∷ ys) x zero l h = h
some_back P (y ∷ ys) x (suc k) l h = some_back P ys x k (omega arith) h

-- no two entries have one key, where no earlier one has that of the last
pub apart_more :
    {X Y : Type 0} (key : X → Y) (xs : List X) (x : X) → AllPairs (λ a b. key a ≢ key b) xs → (Any (λ y. key y ≡ key x) xs → ⊥)
    → AllPairs (λ a b. key a ≢ key b) (xs ++ x ∷ [])
apart_more key xs x apart none =
    all_pairs_push (λ a b. key a ≢ key b) xs x apart
    (λ k d l same. none (k, get_or xs k d, l, get_or_default xs k (get_or xs k d) d l, same))

module _ (ts : List Transition) (ps : List Place) (ls : List InputList) where
  place_wider : (t : Transition) (p : Place) → IsPlaceOf (lists_of ts ps ls) p → IsPlaceOf (lists_of (ts ++ t ∷ []) ps ls) p
  place_wider t p h = record {
    from_in = let more = length_push ts t in omega (arith, more, h.from_in);
    to_in = let more = length_push ts t in omega (arith, more, h.to_in);
    enters_no_input = λ i. h.enters_no_input (some_back _ ts t p.to.index h.to_in i);
    hold_in = h.hold_in;
    tokens_in = h.tokens_in;
    ready_all = h.ready_all;
    ready_in = h.ready_in;
  }

  input_wider : (t : Transition) (l : InputList) → IsInputOf (lists_of ts ps ls) l → IsInputOf (lists_of (ts ++ t ∷ []) ps ls) l
  input_wider t l h = record {
    is_input = some_stays _ ts t l.transition.index h.is_input;
    few = h.few;
    dates_in = h.dates_in;
    never_falls = h.never_falls;
    again = h.again;
  }

  pub transition_kept :
      (t : Transition) → IsNet (lists_of ts ps ls) → length ts < most_transitions → IsTrue (is_name t.name) → (Any (λ x. x.name ≡ t.name) ts → ⊥)
      → IsNet (lists_of (ts ++ t ∷ []) ps ls)
  transition_kept t ok few named none = record {
    some_transition = let more = length_push ts t in omega (arith, more);
    few_transitions = let more = length_push ts t in omega (arith, more, few);
    few_places = ok.few_places;
    transition_names = All-push (λ (x : Transition). IsTrue (is_name x.name)) ts t ok.transition_names named;
    place_names = ok.place_names;
    distinct_transitions = apart_more (λ (x : Transition). x.name) ts t ok.distinct_transitions none;
    distinct_places = ok.distinct_places;
    each_place = λ k d l. place_wider t (get_or ps k d) (ok.each_place k d l);
    one_list = ok.one_list;
    each_input = λ k d l. input_wider t (get_or ls k d) (ok.each_input k d l);
  }

  pub place_kept :
      (p : Place) → IsNet (lists_of ts ps ls) → length ps < most_places → IsTrue (is_name p.name) → (Any (λ x. x.name ≡ p.name) ps → ⊥)
      → IsPlaceOf (transitions_alone ts) p → IsNet (lists_of ts (ps ++ p ∷ []) ls)
  place_kept p ok few named none fits = record {
    some_transition = ok.some_transition;
    few_transitions = ok.few_transitions;
    few_places = let more = length_push ps p in omega (arith, more, few);
    transition_names = ok.transition_names;
    place_names = All-push (λ (x : Place). IsTrue (is_name x.name)) ps p ok.place_names named;
    distinct_transitions = ok.distinct_transitions;
    distinct_places = apart_more (λ (x : Place). x.name) ps p ok.distinct_places none;
    each_place =
        All-push (IsPlaceOf (lists_of ts (ps ++ p ∷ []) ls)) ps p
        (λ k d l. place_along ts ps (ps ++ p ∷ []) ls ls (get_or ps k d) (ok.each_place k d l))
        (place_along ts [] (ps ++ p ∷ []) [] ls p fits);
    one_list = ok.one_list;
    each_input = λ k d l. input_along ts ps (ps ++ p ∷ []) ls ls (get_or ls k d) (ok.each_input k d l);
  }

  pub list_kept :
      (l : InputList) → IsNet (lists_of ts ps ls) → (Any (λ x. x.transition.index ≡ l.transition.index) ls → ⊥)
      → IsInputOf (transitions_alone ts) l → IsNet (lists_of ts ps (ls ++ l ∷ []))
  list_kept l ok none fits = record {
    some_transition = ok.some_transition;
    few_transitions = ok.few_transitions;
    few_places = ok.few_places;
    transition_names = ok.transition_names;
    place_names = ok.place_names;
    distinct_transitions = ok.distinct_transitions;
    distinct_places = ok.distinct_places;
    each_place = λ k d m. place_along ts ps ps ls (ls ++ l ∷ []) (get_or ps k d) (ok.each_place k d m);
    one_list = apart_more (λ (x : InputList). x.transition.index) ls l ok.one_list none;
    each_input =
        All-push (IsInputOf (lists_of ts ps (ls ++ l ∷ []))) ls l
        (λ k d m. input_along ts ps ps ls (ls ++ l ∷ []) (get_or ls k d) (ok.each_input k d m))
        (input_along ts [] ps [] (ls ++ l ∷ []) l fits);
  }

-- what holds of a list as it was and with one more entry holds whether or not it was appended
pub pushed :
    {X : Type 0} (P : List X → Type 0) (xs new : List X) (x : X) (there : Bool) → new ≡ (if there then xs ++ x ∷ [] else xs) → P xs → P (xs ++ x ∷ []) → P new
pushed P xs new x true is old more = subst P (sym is) more
pushed P xs new x false is old more = subst P (sym is) old
