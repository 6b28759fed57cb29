-- The passes on the graph, the input lists and the places find nothing in a written table.
use Rattle.std.proofs.Common.{◌≡◌, ◌⊎◌, inl, inr, ℕ, suc, ◌+◌, ◌<◌, ◌≤◌, Bool, true, false, not, cond, ◌||◌, ◌==◌, nat_lt, List, [], ◌∷◌, map, length}
use Rattle.std.proofs.Common.{Option, Some, None, is_some, option_map, All, refl, ◌∙◌, arith}
use Rattle.std.proofs.lemmas.Bool.Decides.{nat_tests}
use Rattle.std.proofs.lemmas.List.{length-map}
use Rattle.std.proofs.lemmas.List.Elements.{All-head, All-tail}
use Rattle.std.specs.List.Sorted.{IsNonDecreasing}
use Rattle.std.specs.Option.{option_map_or}
use Rattle.toml.specs.Data.{Data, table}
use Rattle.teg_net.specs.Nets.{NetLists, IsNet, IsInput, IsPlaceOf, IsInputOf, EndsOrGoesOn}
use Rattle.teg_net.specs.Limits.{greatest_hold}
use Rattle.teg_net.specs.declared.entries.Again.{Again}
use Rattle.teg_net.specs.declared.entries.Transition.{Transition}
use Rattle.teg_net.specs.declared.entries.TransitionId.{TransitionId}
use Rattle.teg_net.specs.declared.entries.Place.{Place}
use Rattle.teg_net.specs.declared.entries.InputList.{InputList}
use Rattle.teg_reader.specs.declared.keys.Key.TheVariants as key
use Rattle.teg_reader.specs.declared.refusals.Section.TheVariants as section
use Rattle.teg_reader.specs.declared.refusals.ReadRefusal.{ReadRefusal}
use Rattle.teg_reader.specs.TextLists.{is_among}
use Rattle.teg_reader.specs.DocumentTrees.{texts_of, texts_at, number_at, as_number, is_there, entry_names, entry_named}
use Rattle.teg_reader.specs.PassWalks.{spot_at, first_of_entries, finding}
use Rattle.teg_reader.specs.UnknownTransitions.{unknown_among, unknown_text, unknown_transition}
use Rattle.teg_reader.specs.EventGraphs.{no_transitions, not_event_graph, end_at, is_input_named, input_has_upstream}
use Rattle.teg_reader.specs.InputLists.{entry_dates, entry_again, first_fall, is_bad_end, bad_date, fault_of, bad_input}
use Rattle.teg_reader.specs.ReadyDatePass.{bad_ready}
use Rattle.teg_reader.specs.Holds.{duration_named, hold_with_duration, too_slow}
use Rattle.teg_reader.specs.Migrated.{number_data, name_of, transition_entry, place_entry, input_entry, migrated}
use Rattle.teg_reader.proofs.Facts.{le_test}
use Rattle.teg_reader.proofs.RoleLemmas.{is_input-from_named, named-from_is_input}
use Rattle.teg_reader.proofs.MigratedTrees.{numbers_back, found_list, transition_duration, place_from, place_to, place_hold, place_tokens}
use Rattle.teg_reader.proofs.MigratedTrees.{place_ready, ready_list, input_text, input_every, input_gap, dates_list, transition_entries}
use Rattle.teg_reader.proofs.MigratedNames.{names_in, names_back, name_known, HaveDistinctNames, number_back, found_within, transitions_back}
use Rattle.teg_reader.proofs.MigratedEntries.{found_nowhere, found_at_none, no_finding}

-- a look that finds nothing at the entries of a list
pub found_in_none : {X : Type 0} (look : Data → Option ReadRefusal) (f : X → Data) (P : X → Type 0)
    → ((x : X) → P x → look (f x) ≡ None) → (xs : List X) → All P xs → first_of_entries look (map f xs) ≡ None
found_in_none look f P says [] all = refl
found_in_none look f P says (x ∷ xs) all = rw (says x (All-head P x xs all), found_in_none look f P says xs (All-tail P x xs all))

pub some_transition : (ts : List Transition) → 1 ≤ length ts → no_transitions (map transition_entry ts) ≡ None
unfolding no_transitions
some_transition [] h = absurd (omega arith)
some_transition (t ∷ ts) h = refl

-- the ends of a place
from_texts : (ts : List Transition) (p : Place) → texts_at key.From (place_entry ts p) ≡ name_of ts p.from ∷ []
unfolding texts_at texts_of
from_texts ts p = rw (place_from ts p)

to_texts : (ts : List Transition) (p : Place) → texts_at key.To (place_entry ts p) ≡ name_of ts p.to ∷ []
unfolding texts_at texts_of
to_texts ts p = rw (place_to ts p)

pub from_end : (ts : List Transition) (p : Place) → end_at key.From (place_entry ts p) ≡ name_of ts p.from
unfolding end_at
from_end ts p = rw (from_texts ts p)

pub to_end : (ts : List Transition) (p : Place) → end_at key.To (place_entry ts p) ≡ name_of ts p.to
unfolding end_at
to_end ts p = rw (to_texts ts p)

-- each text names a transition
one_known : (names : List (List ℕ)) (text : List ℕ) → is_among names text ≡ true → unknown_among names (text ∷ []) ≡ None
unfolding unknown_among
one_known names text h = rw h

place_known : (net : NetLists) (n : ℕ) (p : Place) → IsPlaceOf net p → unknown_transition (names_in net.transitions) (spot_at section.Place n) (place_entry net.transitions p) ≡ None
unfolding unknown_transition unknown_text
place_known net n p rules =
    rw (
      from_texts net.transitions p,
      to_texts net.transitions p,
      one_known (names_in net.transitions) (name_of net.transitions p.from) (name_known net.transitions p.from rules.from_in),
      one_known (names_in net.transitions) (name_of net.transitions p.to) (name_known net.transitions p.to rules.to_in),
    )

input_known : (net : NetLists) (n : ℕ) (l : InputList) → IsInputOf net l → unknown_transition (names_in net.transitions) (spot_at section.Input n) (input_entry net.transitions l) ≡ None
unfolding unknown_transition unknown_text
input_known net n l rules =
    rw (
      input_text net.transitions l,
      one_known (names_in net.transitions) (name_of net.transitions l.transition) (name_known net.transitions l.transition (found_within net.transitions l.transition.index rules.is_input)),
    )

transition_known : (names : List (List ℕ)) (n : ℕ) (t : Transition) → unknown_transition names (spot_at section.Transition n) (transition_entry t) ≡ None
unfolding unknown_transition unknown_text
transition_known names n t = refl

top_known : (names : List (List ℕ)) (net : NetLists) → unknown_transition names (spot_at section.Top 0) (table (migrated net)) ≡ None
unfolding unknown_transition unknown_text
top_known names net = refl

pub no_unknown_transition : (net : NetLists) → IsNet net → finding (unknown_transition (entry_names (transition_entries net))) (table (migrated net)) ≡ None
no_unknown_transition net rules =
    let names = names_in net.transitions in
    rw (names_back net.transitions)
    (no_finding (unknown_transition names) net (top_known names net)
    (found_at_none (unknown_transition names) section.Transition transition_entry (transition_known names) net.transitions)
    (found_nowhere (unknown_transition names) section.Place (place_entry net.transitions) (IsPlaceOf net) (place_known net) 1 net.places rules.each_place)
    (found_nowhere (unknown_transition names) section.Input (input_entry net.transitions) (IsInputOf net) (input_known net) 1 net.inputs rules.each_input))

pub joins_two : (ts : List Transition) (p : Place) → not_event_graph (place_entry ts p) ≡ None
unfolding not_event_graph
joins_two ts p = rw (from_texts ts p, to_texts ts p)

-- a name is that of an input exactly where its number is
input_named : (net : NetLists) (id : TransitionId) → HaveDistinctNames net.transitions → id.index < length net.transitions
    → is_input_named (transition_entries net) (name_of net.transitions id) ≡ true → IsInput net id.index
input_named net id distinct lt h =
    rw (transitions_back net.transitions, names_back net.transitions, number_back net.transitions id distinct lt) at
    (is_input-from_named (name_of net.transitions id) (transition_entries net) h)

named_input : (net : NetLists) (id : TransitionId) → HaveDistinctNames net.transitions → id.index < length net.transitions
    → IsInput net id.index → is_input_named (transition_entries net) (name_of net.transitions id) ≡ true
named_input net id distinct lt h =
    named-from_is_input (name_of net.transitions id) (transition_entries net)
    (rw (transitions_back net.transitions, names_back net.transitions, number_back net.transitions id distinct lt) h)

pub enters_none : (net : NetLists) → HaveDistinctNames net.transitions → (p : Place) → IsPlaceOf net p → input_has_upstream (transition_entries net) (place_entry net.transitions p) ≡ None
unfolding input_has_upstream
enters_none net distinct p rules =
    let free : is_input_named (transition_entries net) (name_of net.transitions p.to) ≡ false =
    step (is_input_named (transition_entries net) (name_of net.transitions p.to)) (λ e. rules.enters_no_input (input_named net p.to distinct rules.to_in e)) in
    rw (to_end net.transitions p, free) where
      step : (b : Bool) → (b ≡ true → ⊥) → b ≡ false
      step true f = absurd (f (λ _. true))
      step false f = λ _. false

-- input lists
not_less_test : (a b : ℕ) → b ≤ a → nat_lt a b ≡ false
not_less_test a b h = grind (arith, nat_tests)

later_never_falls : (a : ℕ) (dates : List ℕ) → IsNonDecreasing (a ∷ dates) → IsNonDecreasing dates
later_never_falls a dates h i j d le within = h (suc i) (suc j) d (omega arith) (omega arith)

no_fall : (position : ℕ) (dates : List ℕ) → IsNonDecreasing dates → first_fall position dates ≡ None
no_fall position [] h = refl
no_fall position (a ∷ []) h = refl
no_fall position (a ∷ b ∷ dates) h =
    let up : a ≤ b = h 0 1 0 (omega arith) (omega arith) in
    rw (not_less_test b a up, no_fall (position + 1) (b ∷ dates) (later_never_falls a (b ∷ dates) h))

good_end : (dates : List ℕ) (again : Option Again) → EndsOrGoesOn dates again → is_bad_end dates again ≡ false
good_end dates None rules = refl
good_end dates (Some a) rules = rw (not_less_test _ _ rules.enough, not_less_test _ _ rules.joins)

good_dates : (dates : List ℕ) (again : Option Again) → IsNonDecreasing dates → EndsOrGoesOn dates again → bad_date dates again ≡ None
unfolding bad_date
good_dates dates again up rules = rw (no_fall 2 dates up, good_end dates again rules)

pub dates_back : (ts : List Transition) (l : InputList) → entry_dates (input_entry ts l) ≡ l.dates
unfolding entry_dates
dates_back ts l = rw (dates_list ts l) (numbers_back l.dates)

same_again : (again : Option Again) →
    option_map (λ every. record { every = as_number every; gap = option_map_or as_number (option_map (λ a. number_data a.gap) again) 0 }) (option_map (λ a. number_data a.every) again) ≡ again
same_again None = refl
same_again (Some a) = refl

pub again_back : (ts : List Transition) (l : InputList) → entry_again (input_entry ts l) ≡ l.again
unfolding entry_again number_at
again_back ts l = rw (input_every ts l, input_gap ts l) (same_again l.again)

pub good_input : (net : NetLists) → HaveDistinctNames net.transitions → (l : InputList) → IsInputOf net l → bad_input (transition_entries net) (input_entry net.transitions l) ≡ None
unfolding bad_input fault_of
good_input net distinct l rules =
    rw (
      input_text net.transitions l,
      named_input net l.transition distinct (found_within net.transitions l.transition.index rules.is_input) rules.is_input,
      dates_back net.transitions l,
      again_back net.transitions l,
      good_dates l.dates l.again rules.never_falls rules.again,
    )

-- ready dates
equal_test : (a b : ℕ) → a ≡ b → (a == b) ≡ true
equal_test a b h = grind (arith, nat_tests)

ready_fits : (ready : List ℕ) (tokens : ℕ) → (length ready ≡ 0) ⊎ (length ready ≡ tokens) → (not (is_some (found_list (map number_data ready))) || (length (map number_data ready) == tokens)) ≡ true
ready_fits [] tokens h = refl
ready_fits (d ∷ ds) tokens (inl none) = absurd (omega (arith, none))
ready_fits (d ∷ ds) tokens (inr same) = equal_test (length (map number_data (d ∷ ds))) tokens (length-map (d ∷ ds) number_data ∙ same)

pub tokens_back : (ts : List Transition) (p : Place) → number_at key.Tokens (place_entry ts p) ≡ p.tokens
unfolding number_at
tokens_back ts p = rw (place_tokens ts p)

pub good_ready : (net : NetLists) (p : Place) → IsPlaceOf net p → bad_ready (place_entry net.transitions p) ≡ None
unfolding bad_ready is_there
good_ready net p rules = rw (place_ready net.transitions p, ready_list net.transitions p, tokens_back net.transitions p, ready_fits p.ready p.tokens rules.ready_all)

-- no transition has a duration
absent_duration : (t : Transition) → number_at key.Duration (transition_entry t) ≡ 0
unfolding number_at
absent_duration t = rw (transition_duration t)

either_absent : (b : Bool) (t : Transition) (rest : Option Data) → option_map_or (number_at key.Duration) rest 0 ≡ 0
    → option_map_or (number_at key.Duration) (cond b (Some (transition_entry t)) rest) 0 ≡ 0
either_absent true t rest h = absent_duration t
either_absent false t rest h = h

no_duration : (ts : List Transition) (text : List ℕ) → duration_named (map transition_entry ts) text ≡ 0
unfolding duration_named
no_duration [] text = refl
no_duration (t ∷ ts) text = either_absent _ t (entry_named text (map transition_entry ts)) (no_duration ts text)

given_hold : (ts : List Transition) (p : Place) → number_at key.Hold (place_entry ts p) ≡ p.hold
unfolding number_at
given_hold ts p = rw (place_hold ts p)

pub hold_back : (ts : List Transition) (p : Place) → hold_with_duration (map transition_entry ts) (place_entry ts p) ≡ p.hold
unfolding hold_with_duration
hold_back ts p = rw (given_hold ts p, no_duration ts (end_at key.From (place_entry ts p))) (omega arith)

pub good_hold : (net : NetLists) (p : Place) → IsPlaceOf net p → too_slow (transition_entries net) (place_entry net.transitions p) ≡ None
unfolding too_slow
good_hold net p rules = rw (hold_back net.transitions p, le_test p.hold greatest_hold rules.hold_in)
