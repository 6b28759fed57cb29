-- A written net is read as itself.
use Rattle.std.proofs.Common.{◌≡◌, List, [], ◌∷◌, map, Ok, None, All, refl}
use Rattle.std.proofs.lemmas.List.Elements.{All-head, All-tail}
use Rattle.toml.specs.Data.{Data, table}
use Rattle.teg_net.specs.Nets.{NetLists, IsNet, IsPlaceOf, IsInputOf}
use Rattle.teg_net.specs.declared.entries.Place.{Place}
use Rattle.teg_net.specs.declared.entries.InputList.{InputList}
use Rattle.teg_reader.specs.DocumentTrees.{entry_names}
use Rattle.teg_reader.specs.EventGraphs.{not_event_graph, input_has_upstream}
use Rattle.teg_reader.specs.InputLists.{bad_input}
use Rattle.teg_reader.specs.ReadyDatePass.{ready_of, bad_ready}
use Rattle.teg_reader.specs.Holds.{too_slow}
use Rattle.teg_reader.specs.NetOf.{id_of, entry_place, input_of, net_of}
use Rattle.teg_reader.specs.Documents.{bad_entries, bad_graph, bad_places, refused, tree_document}
use Rattle.teg_reader.specs.Migrated.{place_entry, input_entry, migrated}
use Rattle.teg_reader.proofs.MigratedTrees.{numbers_back, place_text, ready_list, input_text, transition_entries, transitions_at, places_at, inputs_at}
use Rattle.teg_reader.proofs.MigratedNames.{names_back, number_back, found_within, transitions_back}
use Rattle.teg_reader.proofs.MigratedEntries.{no_bad_name, no_missing_key, no_wrong_kind, no_unknown_key}
use Rattle.teg_reader.proofs.MigratedRanges.{no_repeats, none_out_of_range}
use Rattle.teg_reader.proofs.MigratedGraphs.{found_in_none, some_transition, from_end, to_end, no_unknown_transition, joins_two, enters_none}
use Rattle.teg_reader.proofs.MigratedGraphs.{dates_back, again_back, good_input, tokens_back, good_ready, hold_back, good_hold}

entries_good : (net : NetLists) → IsNet net → bad_entries (table (migrated net)) ≡ None
unfolding bad_entries
entries_good net rules = rw (no_unknown_key net, no_wrong_kind net, no_missing_key net, no_bad_name net rules, no_repeats net rules, none_out_of_range net rules)

graph_good : (net : NetLists) → IsNet net → bad_graph (table (migrated net)) ≡ None
unfolding bad_graph
graph_good net rules =
    rw (
      transitions_at net,
      places_at net,
      inputs_at net,
      some_transition net.transitions rules.some_transition,
      no_unknown_transition net rules,
      found_in_none not_event_graph (place_entry net.transitions) (IsPlaceOf net) (λ p _. joins_two net.transitions p) net.places rules.each_place,
      found_in_none (input_has_upstream (transition_entries net)) (place_entry net.transitions) (IsPlaceOf net) (enters_none net rules.distinct_transitions) net.places rules.each_place,
      found_in_none (bad_input (transition_entries net)) (input_entry net.transitions) (IsInputOf net) (good_input net rules.distinct_transitions) net.inputs rules.each_input,
    )

places_good : (net : NetLists) → IsNet net → bad_places (table (migrated net)) ≡ None
unfolding bad_places
places_good net rules =
    rw (
      transitions_at net,
      places_at net,
      found_in_none bad_ready (place_entry net.transitions) (IsPlaceOf net) (good_ready net) net.places rules.each_place,
      found_in_none (too_slow (transition_entries net)) (place_entry net.transitions) (IsPlaceOf net) (good_hold net) net.places rules.each_place,
    )

not_refused : (net : NetLists) → IsNet net → refused (table (migrated net)) ≡ None
unfolding refused
not_refused net rules = rw (entries_good net rules, graph_good net rules, places_good net rules)

-- each entry is that of its table
place_back : (net : NetLists) → IsNet net → (p : Place) → IsPlaceOf net p → entry_place (transition_entries net) (place_entry net.transitions p) ≡ p
unfolding entry_place id_of ready_of
place_back net rules p fits =
    rw (
      place_text net.transitions p,
      from_end net.transitions p,
      to_end net.transitions p,
      names_back net.transitions,
      number_back net.transitions p.from rules.distinct_transitions fits.from_in,
      number_back net.transitions p.to rules.distinct_transitions fits.to_in,
      hold_back net.transitions p,
      tokens_back net.transitions p,
      ready_list net.transitions p,
      numbers_back p.ready,
    )

input_back : (net : NetLists) → IsNet net → (l : InputList) → IsInputOf net l → input_of (entry_names (transition_entries net)) (input_entry net.transitions l) ≡ l
unfolding input_of id_of
input_back net rules l fits =
    rw (
      input_text net.transitions l,
      names_back net.transitions,
      number_back net.transitions l.transition rules.distinct_transitions (found_within net.transitions l.transition.index fits.is_input),
      dates_back net.transitions l,
      again_back net.transitions l,
    )

all_back : {X : Type 0} (read : Data → X) (write : X → Data) (P : X → Type 0) → ((x : X) → P x → read (write x) ≡ x) → (xs : List X) → All P xs → map read (map write xs) ≡ xs
all_back read write P says [] all = refl
all_back read write P says (x ∷ xs) all = rw (says x (All-head P x xs all), all_back read write P says xs (All-tail P x xs all))

net_back : (net : NetLists) → IsNet net → net_of (table (migrated net)) ≡ net
unfolding net_of
net_back net rules =
    rw (
      transitions_at net,
      places_at net,
      inputs_at net,
      transitions_back net.transitions,
      all_back (entry_place (transition_entries net)) (place_entry net.transitions) (IsPlaceOf net) (place_back net rules) net.places rules.each_place,
      all_back (input_of (entry_names (transition_entries net))) (input_entry net.transitions) (IsInputOf net) (input_back net rules) net.inputs rules.each_input,
    )

pub net_written : (net : NetLists) → IsNet net → tree_document (table (migrated net)) ≡ Ok net
unfolding tree_document
net_written net rules = rw (not_refused net rules, net_back net rules)
