-- The net of a tree without a finding keeps the rules of a net.
use Rattle.std.proofs.Common.{◌≡◌, ◌≢◌, ℕ, suc, ◌+◌, ◌<◌, ◌≤◌, Bool, true, false, not, cond, ◌||◌, List, [], ◌∷◌, length, map, bytes_eq, None, IsTrue, refl, ap, sym, ◌∙◌, subst, arith}
use Rattle.std.proofs.lemmas.Bool.{and_parts, false≢true}
use Rattle.std.proofs.lemmas.Slice.Eq.{bytes_eq-Decides}
use Rattle.std.proofs.lemmas.List.{length-map, get_or-map}
use Rattle.std.proofs.lemmas.List.Elements.{All-nil, All-cons}
use Rattle.std.proofs.lemmas.List.Kept.{AllPairs-cons}
use Rattle.std.specs.List.{list_any, list_all, position_or_len, All, AllPairs}
use Rattle.std.specs.Map.Iter.{deref}
use Rattle.toml.specs.Data.{Data}
use Rattle.teg_net.specs.Limits.{most_transitions, most_places, greatest_hold, most_place_tokens}
use Rattle.teg_net.specs.Names.{is_name}
use Rattle.teg_net.specs.Nets.{NetLists, IsNet, IsPlaceOf, IsInputOf}
use Rattle.teg_net.specs.declared.entries.Transition.{Transition}
use Rattle.teg_net.specs.declared.entries.Place.{Place}
use Rattle.teg_net.specs.declared.entries.InputList.{InputList}
use Rattle.teg_reader.specs.declared.keys.Key.TheVariants as key
use Rattle.teg_reader.specs.TextLists.{is_among, is_distinct}
use Rattle.teg_reader.specs.DocumentTrees.{text_at, array_at, entry_names}
use Rattle.teg_reader.specs.PassWalks.{first_of_entries}
use Rattle.teg_reader.specs.BadNames.{has_good_name}
use Rattle.teg_reader.specs.Ranges.{is_between_at}
use Rattle.teg_reader.specs.EventGraphs.{end_at}
use Rattle.teg_reader.specs.InputLists.{bad_input}
use Rattle.teg_reader.specs.NetOf.{entry_transition, entry_place, input_of, id_of, net_of}
use Rattle.teg_reader.specs.Sound.{is_sound_place, is_sound_input}
use Rattle.teg_reader.specs.ReadyDatePass.{ready_of, has_ready_for_each}
use Rattle.teg_reader.specs.Documents.{refused, bad_entries, bad_graph, bad_places}
use Rattle.teg_reader.proofs.Facts.{negated, or_false, differs, le_of, le_test}
use Rattle.teg_reader.proofs.NumberLemmas.{TextKey}
use Rattle.teg_reader.proofs.ClearLemmas.{neither, AreGood, good_entries, transitions_named, places_named, distinct, few, has_small_numbers}
use Rattle.teg_reader.proofs.ClearLemmas.{places_in_range, has_numbers_in_range, inputs_in_range, number_up_to}
use Rattle.teg_reader.proofs.GraphLemmas.{IsGraph, good_graph, at_least_one, both_pass, has_known_texts, places_known, has_known_owner, owners_known}
use Rattle.teg_reader.proofs.GraphLemmas.{has_one_end, places_joined, has_known_ends, ends_known, enters_no_input, places_free}
use Rattle.teg_reader.proofs.RoleLemmas.{number_in, is_input-from_named, named-from_is_input}
use Rattle.teg_reader.proofs.InputLemmas.{IsGoodInput, good_input, every_small, dates_in}
use Rattle.teg_reader.proofs.PlaceLemmas.{ready_for_each, has_small_hold, ArePlaces, good_places}

position_within : {A : Type 0} (p : A → Bool) (xs : List A) → list_any p xs ≡ true → position_or_len p xs < length xs
position_within p [] h = absurd (false≢true h)
position_within p (x ∷ xs) h = step (p x) (position_or_len p xs) (length xs) (list_any p xs) h (position_within p xs) where
  step : (b : Bool) (n m : ℕ) (c : Bool) → (b || c) ≡ true → (c ≡ true → n < m) → cond (not b) (1 + n) 0 < suc m
  step true n m c h k = omega arith
  step false n m c h k = let lt : n < m = k h in omega arith

-- a text that is not among others is different from each
differs_from_all : (name : List ℕ) (names : List (List ℕ)) → is_among names name ≡ false → All (λ other. name ≢ other) names
differs_from_all name [] h = All-nil (λ other. name ≢ other)
differs_from_all name (n ∷ names) h =
    let parts = or_false (bytes_eq name n) (is_among names name) h in
    All-cons (λ other. name ≢ other) n names (differs name n parts.0) (differs_from_all name names parts.1)

distinct_pairs : (names : List (List ℕ)) → is_distinct names ≡ true → AllPairs (λ a b. a ≢ b) names
distinct_pairs [] h = λ i j d before within. absurd (omega arith)
distinct_pairs (name ∷ names) h =
    let parts = and_parts (not (is_among names name)) (is_distinct names) h in
    AllPairs-cons (λ a b. a ≢ b) name names (differs_from_all name names (negated _ parts.0)) (distinct_pairs names parts.1)

pairs_of_map : {A : Type 0} (f : A → List ℕ) (xs : List A) → AllPairs (λ a b. a ≢ b) (map f xs) → AllPairs (λ x y. f x ≢ f y) xs
pairs_of_map f xs pairs i j d before within same =
    let there : j < length (map f xs) = rw length-map within in
    let first : i < length xs = omega arith in
    pairs i j (f d) before there (get_or-map f xs i d (f d) first ∙ (same ∙ sym (get_or-map f xs j d (f d) within)))

transition_names : (ts : List Data) → map (λ t. t.name) (map entry_transition ts) ≡ entry_names ts
unfolding entry_transition
transition_names [] = refl
transition_names (t ∷ ts) = ap (λ ns. text_at key.Name t ∷ ns) (transition_names ts)

place_names : (ts : List Data) (ps : List Data) → map (λ p. p.name) (map (entry_place ts) ps) ≡ entry_names ps
unfolding entry_place
place_names ts [] = refl
place_names ts (p ∷ ps) = ap (λ ns. text_at key.Name p ∷ ns) (place_names ts ps)

all_transitions_named : (ts : List Data) → list_all has_good_name ts ≡ true → All (λ t. IsTrue (is_name t.name)) (map entry_transition ts)
unfolding entry_transition
all_transitions_named [] h = All-nil (λ (t : Transition). IsTrue (is_name t.name))
all_transitions_named (t ∷ ts) h =
    let parts = and_parts (has_good_name t) _ h in
    All-cons (λ (t : Transition). IsTrue (is_name t.name)) (entry_transition t) (map entry_transition ts) parts.0 (all_transitions_named ts parts.1)

all_places_named : (ts : List Data) (ps : List Data) → list_all has_good_name ps ≡ true → All (λ p. IsTrue (is_name p.name)) (map (entry_place ts) ps)
unfolding entry_place
all_places_named ts [] h = All-nil (λ (p : Place). IsTrue (is_name p.name))
all_places_named ts (p ∷ ps) h =
    let parts = and_parts (has_good_name p) _ h in
    All-cons (λ (p : Place). IsTrue (is_name p.name)) (entry_place ts p) (map (entry_place ts) ps) parts.0 (all_places_named ts ps parts.1)

-- a place in which no pass finds a fault
record IsGoodPlace (ts : List Data) (p : Data) : Type 0 where
  known : has_known_ends (entry_names ts) p ≡ true
  free : enters_no_input ts p ≡ true
  numbers : has_small_numbers p ≡ true
  ready : has_ready_for_each p ≡ true
  hold : has_small_hold ts p ≡ true

-- such a place keeps the rules in a net of these transitions
place_fits : (net : NetLists) (ts : List Data) (p : Data) → net.transitions ≡ map entry_transition ts → IsGoodPlace ts p → IsPlaceOf net (entry_place ts p)
unfolding entry_place id_of ready_of
place_fits net ts p same good =
    let known = and_parts (is_among (entry_names ts) (end_at key.From p)) _ good.known in
    let numbers = and_parts (is_between_at key.Hold 0 greatest_hold p) _ good.numbers in
    let tokens = and_parts (is_between_at key.Tokens 0 most_place_tokens p) _ numbers.1 in
    let count : length (entry_names ts) ≡ length net.transitions = length-map ts (text_at key.Name) ∙ (sym (length-map ts entry_transition) ∙ ap length (sym same)) in
    record {
      from_in = subst (λ n. number_in ts (end_at key.From p) < n) count (position_within _ _ known.0);
      to_in = subst (λ n. number_in ts (end_at key.To p) < n) count (position_within _ _ known.1);
      enters_no_input = λ input. false≢true (sym (negated _ good.free) ∙ named-from_is_input (end_at key.To p) ts (rw same at input));
      hold_in = le_of _ _ good.hold;
      tokens_in = number_up_to key.Tokens most_place_tokens p tokens.0;
      ready_all = ready_for_each p good.ready;
      ready_in = dates_in (array_at key.Ready p) tokens.1;
    }

places_fit : (net : NetLists) (ts ps : List Data) → net.transitions ≡ map entry_transition ts
    → list_all (has_known_ends (entry_names ts)) ps ≡ true → list_all (enters_no_input ts) ps ≡ true
    → list_all has_small_numbers ps ≡ true → list_all has_ready_for_each ps ≡ true → list_all (has_small_hold ts) ps ≡ true
    → All (IsPlaceOf net) (map (entry_place ts) ps)
places_fit net ts [] same known free numbers ready holds = All-nil (IsPlaceOf net)
places_fit net ts (p ∷ ps) same known free numbers ready holds =
    let a = and_parts (has_known_ends (entry_names ts) p) _ known in
    let b = and_parts (enters_no_input ts p) _ free in
    let c = and_parts (has_small_numbers p) _ numbers in
    let d = and_parts (has_ready_for_each p) _ ready in
    let e = and_parts (has_small_hold ts p) _ holds in
    All-cons (IsPlaceOf net) (entry_place ts p) (map (entry_place ts) ps)
    (place_fits net ts p same (record { known = a.0; free = b.0; numbers = c.0; ready = d.0; hold = e.0 })) (places_fit net ts ps same a.1 b.1 c.1 d.1 e.1)

-- an input list without a fault keeps the rules in a net of these transitions
input_fits : (net : NetLists) (ts : List Data) (l : Data) → net.transitions ≡ map entry_transition ts → IsGoodInput ts l → IsInputOf net (input_of (entry_names ts) l)
unfolding input_of id_of
input_fits net ts l same good = record {
  is_input = rw same (is_input-from_named (text_at key.Transition l) ts good.is_input);
  few = good.few;
  dates_in = good.dates_in;
  never_falls = good.never_falls;
  again = good.again;
}

inputs_fit : (net : NetLists) (ts ls : List Data) → net.transitions ≡ map entry_transition ts → first_of_entries (bad_input ts) ls ≡ None → list_all has_numbers_in_range ls ≡ true
    → All (IsInputOf net) (map (input_of (entry_names ts)) ls)
inputs_fit net ts [] same none range = All-nil (IsInputOf net)
inputs_fit net ts (l ∷ ls) same none range =
    let a = neither _ _ none in
    let b = and_parts (has_numbers_in_range l) _ range in
    All-cons (IsInputOf net) (input_of (entry_names ts) l) (map (input_of (entry_names ts)) ls)
    (input_fits net ts l same (good_input ts l a.0 b.0)) (inputs_fit net ts ls same a.1 b.1)

-- texts with one number are one text
same_number : (names : List (List ℕ)) (a b : List ℕ) → is_among names a ≡ true → position_or_len (bytes_eq a) names ≡ position_or_len (bytes_eq b) names → is_among names b ≡ true → a ≡ b
same_number [] a b known same other = absurd (false≢true known)
same_number (n ∷ names) a b known same other = step (bytes_eq a n) (bytes_eq b n) (bytes_eq-Decides a n).0 (bytes_eq-Decides b n).0 known other same (same_number names a b) where
  step : (x y : Bool) → (x ≡ true → a ≡ n) → (y ≡ true → b ≡ n) → (x || is_among names a) ≡ true → (y || is_among names b) ≡ true
      → cond (not x) (1 + position_or_len (bytes_eq a) names) 0 ≡ cond (not y) (1 + position_or_len (bytes_eq b) names) 0
      → (is_among names a ≡ true → position_or_len (bytes_eq a) names ≡ position_or_len (bytes_eq b) names → is_among names b ≡ true → a ≡ b) → a ≡ b
  step true true ea eb ka kb e later = ea refl ∙ sym (eb refl)
  step true false ea eb ka kb e later = absurd (omega (arith, e))
  step false true ea eb ka kb e later = absurd (omega (arith, e))
  step false false ea eb ka kb e later = later ka (omega (arith, e)) kb

other_numbers : (names : List (List ℕ)) (text : List ℕ) (ls : List Data) → is_among names text ≡ true
    → list_all (has_known_owner names) ls ≡ true → is_among (map (text_at key.Transition) ls) text ≡ false
    → All (λ (l : InputList). position_or_len (bytes_eq text) names ≢ l.transition.index) (map (input_of names) ls)
unfolding input_of id_of
other_numbers names text [] known owners new = All-nil (λ (l : InputList). position_or_len (bytes_eq text) names ≢ l.transition.index)
other_numbers names text (l ∷ ls) known owners new =
    let a = and_parts (has_known_owner names l) _ owners in
    let b = or_false (bytes_eq text (text_at key.Transition l)) _ new in
    All-cons (λ (l : InputList). position_or_len (bytes_eq text) names ≢ l.transition.index) (input_of names l) (map (input_of names) ls)
    (λ same. differs text (text_at key.Transition l) b.0 (same_number names text (text_at key.Transition l) known same a.0)) (other_numbers names text ls known a.1 b.1)

one_list : (names : List (List ℕ)) (ls : List Data) → is_distinct (map (text_at key.Transition) ls) ≡ true → list_all (has_known_owner names) ls ≡ true
    → AllPairs (λ (l m : InputList). l.transition.index ≢ m.transition.index) (map (input_of names) ls)
unfolding input_of id_of
one_list names [] distinct owners = λ i j d before within. absurd (omega arith)
one_list names (l ∷ ls) distinct owners =
    let a = and_parts (not (is_among (map (text_at key.Transition) ls) (text_at key.Transition l))) _ distinct in
    let b = and_parts (has_known_owner names l) _ owners in
    AllPairs-cons (λ (l m : InputList). l.transition.index ≢ m.transition.index) (input_of names l) (map (input_of names) ls)
    (other_numbers names (text_at key.Transition l) ls b.0 b.1 (negated _ a.0)) (one_list names ls a.1 b.1)

-- the passes find nothing in the tree
pub record IsAccepted (top : Data) : Type 0 where
  pub entries : AreGood top
  pub graph : IsGraph top
  pub places : ArePlaces top

pub accepted : (top : Data) → refused top ≡ None → IsAccepted top
unfolding refused
accepted top h =
    let a = neither (bad_entries top) _ h in
    let b = neither (bad_graph top) (bad_places top) a.1 in
    record { entries = good_entries top a.0; graph = good_graph top b.0; places = good_places top b.1 }

pub joined : (top : Data) → IsAccepted top → list_all (has_known_ends (entry_names (array_at key.Transition top))) (array_at key.Place top) ≡ true
joined top h =
    both_pass (has_known_texts (entry_names (array_at key.Transition top))) has_one_end (has_known_ends (entry_names (array_at key.Transition top)))
    (ends_known (entry_names (array_at key.Transition top))) (array_at key.Place top) (places_known top h.graph) (places_joined top h.graph)

pub net_rules : (top : Data) → refused top ≡ None → IsNet (net_of top)
unfolding net_of
net_rules top none =
    let h = accepted top none in
    let ts = array_at key.Transition top in
    let ps = array_at key.Place top in
    let ls = array_at key.Input top in
    let distinct_names = distinct top h.entries in
    let counts = few top h.entries in
    let some : 0 < length ts = at_least_one ts h.graph.some_transition in
    let ts_len : length (map entry_transition ts) ≡ length ts = length-map ts entry_transition in
    let ps_len : length (map (entry_place ts) ps) ≡ length ps = length-map ps (entry_place ts) in
    record {
      some_transition = subst (λ n. 1 ≤ n) (sym ts_len) (omega (arith, some));
      few_transitions = subst (λ n. n ≤ most_transitions) (sym ts_len) counts.transitions;
      few_places = subst (λ n. n ≤ most_places) (sym ps_len) counts.places;
      transition_names = all_transitions_named ts (transitions_named top h.entries);
      place_names = all_places_named ts ps (places_named top h.entries);
      distinct_transitions = pairs_of_map (λ (t : Transition). t.name) (map entry_transition ts)
          (subst (AllPairs (λ a b. a ≢ b)) (sym (transition_names ts)) (distinct_pairs (entry_names ts) distinct_names.transitions));
      distinct_places = pairs_of_map (λ (p : Place). p.name) (map (entry_place ts) ps)
          (subst (AllPairs (λ a b. a ≢ b)) (sym (place_names ts ps)) (distinct_pairs (entry_names ps) distinct_names.places));
      each_place = places_fit _ ts ps refl (joined top h) (places_free top h.graph) (places_in_range top h.entries) h.places.ready h.places.holds;
      one_list = one_list (entry_names ts) ls distinct_names.inputs (owners_known top h.graph.known);
      each_input = inputs_fit _ ts ls refl h.graph.inputs (inputs_in_range top h.entries);
    }

sound_place : (names : List (List ℕ)) (d : Data) → has_good_name d ≡ true → has_small_numbers d ≡ true → has_known_ends names d ≡ true → is_sound_place names d ≡ true
unfolding is_sound_place
sound_place names d name numbers known =
    let a = and_parts (is_between_at key.Hold 0 greatest_hold d) _ numbers in
    let b = and_parts (is_among names (end_at key.From d)) _ known in
    let c = and_parts (is_between_at key.Tokens 0 most_place_tokens d) _ a.1 in
    rw (name, le_test _ _ (number_up_to key.Tokens most_place_tokens d c.0), b.0, b.1)

sound_places_of : (names : List (List ℕ)) (ps : List Data) → list_all has_good_name ps ≡ true → list_all has_small_numbers ps ≡ true
    → list_all (has_known_ends names) ps ≡ true → list_all (is_sound_place names) ps ≡ true
sound_places_of names [] good numbers known = refl
sound_places_of names (p ∷ ps) good numbers known =
    let a = and_parts (has_good_name p) _ good in
    let b = and_parts (has_small_numbers p) _ numbers in
    let c = and_parts (has_known_ends names p) _ known in
    rw (sound_place names p a.0 b.0 c.0, sound_places_of names ps a.1 b.1 c.1)

pub sound_places : (top : Data) → refused top ≡ None → list_all (is_sound_place (entry_names (array_at key.Transition top))) (array_at key.Place top) ≡ true
sound_places top none =
    let h = accepted top none in
    sound_places_of (entry_names (array_at key.Transition top)) (array_at key.Place top) (places_named top h.entries) (places_in_range top h.entries) (joined top h)

sound_input : (names : List (List ℕ)) (d : Data) → has_known_owner names d ≡ true → has_numbers_in_range d ≡ true → is_sound_input names d ≡ true
unfolding is_sound_input
sound_input names d known range = rw (known, every_small d range)

pub sound_inputs : (top : Data) → refused top ≡ None → list_all (is_sound_input (entry_names (array_at key.Transition top))) (array_at key.Input top) ≡ true
sound_inputs top none =
    let h = accepted top none in
    both_pass (has_known_owner (entry_names (array_at key.Transition top))) has_numbers_in_range (is_sound_input (entry_names (array_at key.Transition top)))
    (sound_input (entry_names (array_at key.Transition top))) (array_at key.Input top) (owners_known top h.graph.known) (inputs_in_range top h.entries)

pub good_transitions : (top : Data) → refused top ≡ None → list_all has_good_name (array_at key.Transition top) ≡ true
good_transitions top none = transitions_named top (accepted top none).entries

-- there are few names
pub few_names : (ks : List TextKey) (top : Data) → refused top ≡ None → map deref ks ≡ entry_names (array_at key.Transition top) → length ks ≤ 400
few_names ks top none same =
    let h = accepted top none in
    let few_ts : length (array_at key.Transition top) ≤ 400 = (few top h.entries).transitions in
    let ks_len : length (map deref ks) ≡ length ks = length-map ks (deref {X = List ℕ}) in
    let names_len : length (entry_names (array_at key.Transition top)) ≡ length (array_at key.Transition top) = length-map (array_at key.Transition top) (text_at key.Name) in
    omega (arith, ap length same)
