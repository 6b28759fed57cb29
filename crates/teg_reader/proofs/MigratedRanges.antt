-- The passes on repeats and ranges find nothing in a written table.
use Rattle.std.proofs.Common.{◌≡◌, ◌≢◌, ℕ, ◌+◌, Bool, true, false, nat_le, List, [], ◌∷◌, ◌++◌, map, length, get_or, Option, Some, None, option_map, AllPairs, refl, sym, ◌∙◌, arith, append_assoc}
use Rattle.std.proofs.lemmas.Bool.{false≢true}
use Rattle.std.proofs.lemmas.List.{length-map, length-append, map-append}
use Rattle.std.specs.Option.{option_map_or}
use Rattle.toml.specs.Data.{Data, table}
use Rattle.teg_net.specs.Nets.{NetLists, IsNet, IsPlaceOf, IsInputOf, EndsOrGoesOn}
use Rattle.teg_net.specs.Limits.{most_transitions, most_places, greatest_hold, most_place_tokens, most_input_dates, greatest_input_date, greatest_every}
use Rattle.teg_net.specs.declared.entries.Role.{Role}
use Rattle.teg_net.specs.declared.entries.Role.TheVariants.{Internal, Input, Output}
use Rattle.teg_net.specs.declared.entries.Again.{Again}
use Rattle.teg_net.specs.declared.entries.Transition.{Transition}
use Rattle.teg_net.specs.declared.entries.Place.{Place}
use Rattle.teg_net.specs.declared.entries.InputList.{InputList}
use Rattle.teg_reader.specs.declared.keys.Key.{Key}
use Rattle.teg_reader.specs.declared.keys.Key.TheVariants as key
use Rattle.teg_reader.specs.declared.refusals.Section.{Section}
use Rattle.teg_reader.specs.declared.refusals.Section.TheVariants as section
use Rattle.teg_reader.specs.Fields.{fields_of}
use Rattle.teg_reader.specs.TextLists.{is_among, is_distinct}
use Rattle.teg_reader.specs.DocumentTrees.{text_at, is_between}
use Rattle.teg_reader.specs.PassWalks.{spot_at, first_finding, finding}
use Rattle.teg_reader.specs.Repeats.{repeats_earlier, repeated_at, repeated}
use Rattle.teg_reader.specs.Ranges.{is_role, in_range, out_of_range}
use Rattle.teg_reader.specs.Migrated.{number_data, role_text, name_of, transition_entry, place_entry, input_entry, migrated}
use Rattle.teg_reader.proofs.Facts.{le_test}
use Rattle.teg_reader.proofs.NumberLemmas.{repeats}
use Rattle.teg_reader.proofs.ClearLemmas.{front_of}
use Rattle.teg_reader.proofs.MigratedTrees.{all_between, number_between, transition_role, transition_duration, place_text, place_hold, place_tokens}
use Rattle.teg_reader.proofs.MigratedTrees.{ready_list, input_text, input_every, input_gap, dates_list, transition_entries, place_entries}
use Rattle.teg_reader.proofs.MigratedTrees.{input_entries, top_version, transitions_at, places_at, inputs_at}
use Rattle.teg_reader.proofs.MigratedNames.{distinct_texts, texts_through, names_back, same_number, found_within}
use Rattle.teg_reader.proofs.MigratedEntries.{found_nowhere, found_at_none, no_finding}

-- a text of distinct ones is none of those before it
not_among : (text : List ℕ) (front rest : List (List ℕ)) → is_distinct (front ++ text ∷ rest) ≡ true → is_among front text ≡ false
not_among text front rest h = step (is_among front text) (λ e. false≢true (sym (repeats text front rest e) ∙ h)) where
  step : (b : Bool) → (b ≡ true → ⊥) → b ≡ false
  step true f = absurd (f (λ _. true))
  step false f = λ _. false

none_earlier : (part : Section) (k : Key) (front rest : List Data) (d : Data) → is_among (map (text_at k) front) (text_at k d) ≡ false
    → repeats_earlier k (front ++ rest) (spot_at part (length front + 1)) d ≡ None
unfolding repeats_earlier
none_earlier part k front rest d h = rw (front_of front rest, h)

no_repeat_from : (part : Section) (k : Key) (front rest : List Data) → is_distinct (map (text_at k) (front ++ rest)) ≡ true
    → first_finding (repeats_earlier k (front ++ rest)) part (length front + 1) rest ≡ None
no_repeat_from part k front [] h = refl
no_repeat_from part k front (d ∷ rest) h =
    let spread : is_distinct (map (text_at k) front ++ text_at k d ∷ map (text_at k) rest) ≡ true = rw map-append at h in
    let new : is_among (map (text_at k) front) (text_at k d) ≡ false = not_among (text_at k d) (map (text_at k) front) (map (text_at k) rest) spread in
    let same : (front ++ d ∷ []) ++ rest ≡ front ++ d ∷ rest = append_assoc front (d ∷ []) rest in
    let count : length (front ++ d ∷ []) ≡ length front + 1 = length-append front (d ∷ []) in
    let later : first_finding (repeats_earlier k ((front ++ d ∷ []) ++ rest)) part (length (front ++ d ∷ []) + 1) rest ≡ None = no_repeat_from part k (front ++ d ∷ []) rest (rw same h) in
    rw (none_earlier part k front (d ∷ rest) d new) (rw (same, count) at later)

no_repeat : (part : Section) (k : Key) (ds : List Data) → is_distinct (map (text_at k) ds) ≡ true → repeated_at part k ds ≡ None
unfolding repeated_at
no_repeat part k ds h = no_repeat_from part k [] ds h

transitions_distinct : (net : NetLists) → IsNet net → is_distinct (map (text_at key.Name) (transition_entries net)) ≡ true
transitions_distinct net rules = rw (names_back net.transitions) (distinct_texts (λ (t : Transition). t.name) net.transitions rules.distinct_transitions)

places_distinct : (net : NetLists) → IsNet net → is_distinct (map (text_at key.Name) (place_entries net)) ≡ true
places_distinct net rules =
    rw (texts_through key.Name (place_entry net.transitions) (λ (p : Place). p.name) (place_text net.transitions) net.places)
    (distinct_texts (λ (p : Place). p.name) net.places rules.distinct_places)

-- the lists are of transitions with different names
owners_differ : (net : NetLists) → IsNet net → AllPairs (λ (l m : InputList). name_of net.transitions l.transition ≢ name_of net.transitions m.transition) net.inputs
owners_differ net rules = λ i j d before within. λ same.
    let first = rules.each_input i d (omega arith) in
    let later = rules.each_input j d within in
    rules.one_list i j d before within
    (same_number net.transitions (get_or net.inputs i d).transition (get_or net.inputs j d).transition rules.distinct_transitions
    (found_within net.transitions _ first.is_input) (found_within net.transitions _ later.is_input) same)

inputs_distinct : (net : NetLists) → IsNet net → is_distinct (map (text_at key.Transition) (input_entries net)) ≡ true
inputs_distinct net rules =
    rw (texts_through key.Transition (input_entry net.transitions) (λ (l : InputList). name_of net.transitions l.transition) (input_text net.transitions) net.inputs)
    (distinct_texts (λ (l : InputList). name_of net.transitions l.transition) net.inputs (owners_differ net rules))

pub no_repeats : (net : NetLists) → IsNet net → repeated (table (migrated net)) ≡ None
unfolding repeated
no_repeats net rules =
    rw (
      transitions_at net,
      places_at net,
      inputs_at net,
      no_repeat section.Transition key.Name (transition_entries net) (transitions_distinct net rules),
      no_repeat section.Place key.Name (place_entries net) (places_distinct net rules),
      no_repeat section.Input key.Transition (input_entries net) (inputs_distinct net rules),
    )

-- ranges
role_in_range : (r : Role) → is_role (role_text r) ≡ true
role_in_range Internal = refl
role_in_range Input = refl
role_in_range Output = refl

transition_ranges : (n : ℕ) (t : Transition) → out_of_range (spot_at section.Transition n) (transition_entry t) ≡ None
unfolding out_of_range in_range fields_of
transition_ranges n t = rw (transition_role t, transition_duration t, role_in_range t.role)

place_ranges : (net : NetLists) (n : ℕ) (p : Place) → IsPlaceOf net p → out_of_range (spot_at section.Place n) (place_entry net.transitions p) ≡ None
unfolding out_of_range in_range fields_of
place_ranges net n p rules =
    rw (
      place_hold net.transitions p,
      place_tokens net.transitions p,
      ready_list net.transitions p,
      number_between 0 greatest_hold p.hold (omega arith) rules.hold_in,
      number_between 0 most_place_tokens p.tokens (omega arith) rules.tokens_in,
      all_between greatest_input_date p.ready rules.ready_in,
    )

every_in_range : (dates : List ℕ) (again : Option Again) → EndsOrGoesOn dates again → option_map_or (is_between 1 greatest_every) (option_map (λ a. number_data a.every) again) true ≡ true
every_in_range dates None rules = refl
every_in_range dates (Some a) rules = number_between 1 greatest_every a.every rules.some rules.every_in

gap_in_range : (dates : List ℕ) (again : Option Again) → EndsOrGoesOn dates again → option_map_or (is_between 0 greatest_input_date) (option_map (λ a. number_data a.gap) again) true ≡ true
gap_in_range dates None rules = refl
gap_in_range dates (Some a) rules = number_between 0 greatest_input_date a.gap (omega arith) rules.gap_in

input_ranges : (net : NetLists) (n : ℕ) (l : InputList) → IsInputOf net l → out_of_range (spot_at section.Input n) (input_entry net.transitions l) ≡ None
unfolding out_of_range in_range fields_of
input_ranges net n l rules =
    let few : nat_le (length (map number_data l.dates)) most_input_dates ≡ true = le_test _ _ (rw length-map rules.few) in
    rw (
      dates_list net.transitions l,
      few,
      all_between greatest_input_date l.dates rules.dates_in,
      input_every net.transitions l,
      input_gap net.transitions l,
      every_in_range l.dates l.again rules.again,
      gap_in_range l.dates l.again rules.again,
    )

top_ranges : (net : NetLists) → IsNet net → out_of_range (spot_at section.Top 0) (table (migrated net)) ≡ None
unfolding out_of_range in_range fields_of
top_ranges net rules =
    let few_ts : nat_le (length (transition_entries net)) most_transitions ≡ true = le_test _ _ (rw length-map rules.few_transitions) in
    let few_ps : nat_le (length (place_entries net)) most_places ≡ true = le_test _ _ (rw length-map rules.few_places) in
    rw (top_version net, transitions_at net, places_at net, few_ts, few_ps)

pub none_out_of_range : (net : NetLists) → IsNet net → finding out_of_range (table (migrated net)) ≡ None
none_out_of_range net rules =
    no_finding out_of_range net (top_ranges net rules)
    (found_at_none out_of_range section.Transition transition_entry transition_ranges net.transitions)
    (found_nowhere out_of_range section.Place (place_entry net.transitions) (IsPlaceOf net) (place_ranges net) 1 net.places rules.each_place)
    (found_nowhere out_of_range section.Input (input_entry net.transitions) (IsInputOf net) (input_ranges net) 1 net.inputs rules.each_input)
