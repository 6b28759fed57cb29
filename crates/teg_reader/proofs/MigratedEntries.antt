-- The passes on keys, kinds, names and ranges find nothing in a written table.
use Rattle.std.proofs.Common.{◌≡◌, ℕ, ◌+◌, true, not, ◌&&◌, if◌then◌else◌, List, [], ◌∷◌, map, Option, Some, None, is_some, option_map, All, IsTrue, refl, ap, ◌∙◌}
use Rattle.std.proofs.lemmas.List.Elements.{All-head, All-tail}
use Rattle.std.specs.Prelude.{⊤}
use Rattle.std.specs.List.{list_all}
use Rattle.std.specs.Option.{option_map_or}
use Rattle.toml.specs.Data.{Data, table, no_members, member}
use Rattle.teg_net.specs.Nets.{NetLists, IsNet}
use Rattle.teg_net.specs.Names.{is_name}
use Rattle.teg_net.specs.declared.entries.Again.{Again}
use Rattle.teg_net.specs.declared.entries.Transition.{Transition}
use Rattle.teg_net.specs.declared.entries.Place.{Place}
use Rattle.teg_net.specs.declared.entries.InputList.{InputList}
use Rattle.teg_reader.specs.declared.keys.Key.TheVariants as key
use Rattle.teg_reader.specs.declared.fields.Kind.TheVariants.{Integer, Integers, Tables}
use Rattle.teg_reader.specs.declared.refusals.Section.{Section}
use Rattle.teg_reader.specs.declared.refusals.Section.TheVariants as section
use Rattle.teg_reader.specs.declared.refusals.ReadRefusal.TheVariants as refusal
use Rattle.teg_reader.specs.Keys.{key_text}
use Rattle.teg_reader.specs.Fields.{fields_of, listed_fields}
use Rattle.teg_reader.specs.DocumentTrees.{is_there, is_table}
use Rattle.teg_reader.specs.PassWalks.{Look, spot_at, first_finding, finding}
use Rattle.teg_reader.specs.UnknownKeys.{is_field, least_text, unlisted_keys, is_second, unknown_key}
use Rattle.teg_reader.specs.WrongKinds.{is_kind, has_kind, wrong_kind}
use Rattle.teg_reader.specs.MissingKeys.{has_needed, lone_key, missing_key}
use Rattle.teg_reader.specs.BadNames.{bad_name}
use Rattle.teg_reader.specs.Migrated.{number_data, numbers_data, transition_entry, place_entry, input_entry, with_ready, with_again, with_entries, migrated}
use Rattle.teg_reader.proofs.MigratedTrees.{list_of_items, all_integers, found_list, transition_name, transition_role, transition_duration}
use Rattle.teg_reader.proofs.MigratedTrees.{transition_text, place_name, place_from, place_to, place_hold, place_tokens, place_ready, place_text}
use Rattle.teg_reader.proofs.MigratedTrees.{input_owner, input_dates, input_every, input_gap, transition_entries, place_entries, input_entries}
use Rattle.teg_reader.proofs.MigratedTrees.{top_version, top_transitions, top_places, top_inputs, transitions_at, places_at, inputs_at}

-- a look that finds nothing at the entries of a list
pub found_nowhere : {X : Type 0} (look : Look) (part : Section) (f : X → Data) (P : X → Type 0) → ((n : ℕ) (x : X) → P x → look (spot_at part n) (f x) ≡ None)
    → (n : ℕ) (xs : List X) → All P xs → first_finding look part n (map f xs) ≡ None
found_nowhere look part f P says n [] all = refl
found_nowhere look part f P says n (x ∷ xs) all =
    rw (says n x (All-head P x xs all), found_nowhere look part f P says (n + 1) xs (All-tail P x xs all))

-- at any entry, whatever it is
pub found_at_none : {X : Type 0} (look : Look) (part : Section) (f : X → Data) → ((n : ℕ) (x : X) → look (spot_at part n) (f x) ≡ None)
    → (xs : List X) → first_finding look part 1 (map f xs) ≡ None
found_at_none look part f says xs = found_nowhere look part f (λ _. ⊤) (λ n x _. says n x) 1 xs (λ i d lt. tt)

-- a pass that finds nothing in each part finds nothing
pub no_finding : (look : Look) (net : NetLists) → look (spot_at section.Top 0) (table (migrated net)) ≡ None
    → first_finding look section.Transition 1 (transition_entries net) ≡ None → first_finding look section.Place 1 (place_entries net) ≡ None
    → first_finding look section.Input 1 (input_entries net) ≡ None → finding look (table (migrated net)) ≡ None
unfolding finding
no_finding look net top transitions places inputs = rw (transitions_at net, places_at net, inputs_at net, top, transitions, places, inputs)

-- unknown keys
transition_listed : (n : ℕ) (t : Transition) → unknown_key true (spot_at section.Transition n) (transition_entry t) ≡ None
unfolding unknown_key unlisted_keys listed_fields fields_of is_field least_text key_text transition_entry
transition_listed n t = refl

place_keys : (ready : List ℕ) (from hold name to tokens : Data)
    → unlisted_keys (listed_fields true section.Place)
    (table (member (key_text key.From) from (member (key_text key.Hold) hold
    (member (key_text key.Name) name (with_ready ready (member (key_text key.To) to (member (key_text key.Tokens) tokens no_members))))))) ≡ []
unfolding unlisted_keys listed_fields fields_of is_field key_text
place_keys [] from hold name to tokens = refl
place_keys (d ∷ ds) from hold name to tokens = refl

place_listed : (ts : List Transition) (n : ℕ) (p : Place) → unknown_key true (spot_at section.Place n) (place_entry ts p) ≡ None
unfolding unknown_key least_text place_entry
place_listed ts n p = ap (λ ks. option_map (λ k. refusal.UnknownKey (spot_at section.Place n) k) (least_text ks)) (place_keys p.ready _ _ _ _ _)

input_keys : (again : Option Again) (dates name : Data)
    → unlisted_keys (listed_fields true section.Input) (table (member (key_text key.Dates) dates (with_again again (member (key_text key.Transition) name no_members)))) ≡ []
unfolding unlisted_keys listed_fields fields_of is_field key_text
input_keys None dates name = refl
input_keys (Some a) dates name = refl

input_listed : (ts : List Transition) (n : ℕ) (l : InputList) → unknown_key true (spot_at section.Input n) (input_entry ts l) ≡ None
unfolding unknown_key least_text input_entry
input_listed ts n l = ap (λ ks. option_map (λ k. refusal.UnknownKey (spot_at section.Input n) k) (least_text ks)) (input_keys l.again _ _)

top_keys : (is ps ts : List Data) (version : Data)
    → unlisted_keys (listed_fields true section.Top)
    (table (with_entries key.Input is (with_entries key.Place ps (with_entries key.Transition ts (member (key_text key.Version) version no_members))))) ≡ []
unfolding unlisted_keys listed_fields fields_of is_field key_text
top_keys [] [] [] version = refl
top_keys [] [] (t ∷ ts) version = refl
top_keys [] (p ∷ ps) [] version = refl
top_keys [] (p ∷ ps) (t ∷ ts) version = refl
top_keys (i ∷ is) [] [] version = refl
top_keys (i ∷ is) [] (t ∷ ts) version = refl
top_keys (i ∷ is) (p ∷ ps) [] version = refl
top_keys (i ∷ is) (p ∷ ps) (t ∷ ts) version = refl

top_listed : (net : NetLists) → unknown_key true (spot_at section.Top 0) (table (migrated net)) ≡ None
unfolding unknown_key least_text migrated
top_listed net = ap (λ ks. option_map (λ k. refusal.UnknownKey (spot_at section.Top 0) k) (least_text ks)) (top_keys (input_entries net) (place_entries net) (transition_entries net) _)

second : (net : NetLists) → is_second (table (migrated net)) ≡ true
unfolding is_second
second net = rw (top_version net)

pub no_unknown_key : (net : NetLists) → finding (unknown_key (is_second (table (migrated net)))) (table (migrated net)) ≡ None
no_unknown_key net =
    rw (second net)
    (no_finding (unknown_key true) net (top_listed net)
    (found_at_none (unknown_key true) section.Transition transition_entry transition_listed net.transitions)
    (found_at_none (unknown_key true) section.Place (place_entry net.transitions) (place_listed net.transitions) net.places)
    (found_at_none (unknown_key true) section.Input (input_entry net.transitions) (input_listed net.transitions) net.inputs))

-- kinds
transition_kinds : (n : ℕ) (t : Transition) → wrong_kind (spot_at section.Transition n) (transition_entry t) ≡ None
unfolding wrong_kind has_kind is_kind fields_of
transition_kinds n t = rw (transition_name t, transition_role t, transition_duration t)

integers_kind : (ns : List ℕ) → option_map_or (is_kind Integers) (found_list (map number_data ns)) true ≡ true
unfolding is_kind
integers_kind [] = refl
integers_kind (n ∷ ns) = all_integers ns

dates_kind : (ns : List ℕ) → is_kind Integers (numbers_data ns) ≡ true
unfolding is_kind
dates_kind ns = all_integers ns

place_kinds : (ts : List Transition) (n : ℕ) (p : Place) → wrong_kind (spot_at section.Place n) (place_entry ts p) ≡ None
unfolding wrong_kind has_kind is_kind fields_of
place_kinds ts n p = rw (place_name ts p, place_from ts p, place_to ts p, place_hold ts p, place_tokens ts p, place_ready ts p, integers_kind p.ready)

number_kind : (f : Again → ℕ) (again : Option Again) → option_map_or (is_kind Integer) (option_map (λ a. number_data (f a)) again) true ≡ true
unfolding is_kind
number_kind f None = refl
number_kind f (Some a) = refl

input_kinds : (ts : List Transition) (n : ℕ) (l : InputList) → wrong_kind (spot_at section.Input n) (input_entry ts l) ≡ None
unfolding wrong_kind has_kind is_kind fields_of
input_kinds ts n l = rw (input_owner ts l, input_dates ts l, dates_kind l.dates, input_every ts l, input_gap ts l, number_kind (λ a. a.every) l.again, number_kind (λ a. a.gap) l.again)

all_tables : {X : Type 0} (f : X → Data) → ((x : X) → is_table (f x) ≡ true) → (xs : List X) → list_all is_table (map f xs) ≡ true
all_tables f says [] = refl
all_tables f says (x ∷ xs) = rw (says x, all_tables f says xs)

tables_kind : (ds : List Data) → list_all is_table ds ≡ true → option_map_or (is_kind Tables) (found_list ds) true ≡ true
unfolding is_kind
tables_kind [] h = refl
tables_kind (d ∷ ds) h = ap (list_all is_table) (list_of_items (d ∷ ds)) ∙ h

transition_is_table : (t : Transition) → is_table (transition_entry t) ≡ true
unfolding transition_entry
transition_is_table t = refl

place_is_table : (ts : List Transition) (p : Place) → is_table (place_entry ts p) ≡ true
unfolding place_entry
place_is_table ts p = refl

input_is_table : (ts : List Transition) (l : InputList) → is_table (input_entry ts l) ≡ true
unfolding input_entry
input_is_table ts l = refl

top_kinds : (net : NetLists) → wrong_kind (spot_at section.Top 0) (table (migrated net)) ≡ None
unfolding wrong_kind has_kind is_kind fields_of
top_kinds net =
    rw (
      top_version net,
      top_transitions net,
      top_places net,
      top_inputs net,
      tables_kind (transition_entries net) (all_tables transition_entry transition_is_table net.transitions),
      tables_kind (place_entries net) (all_tables (place_entry net.transitions) (place_is_table net.transitions) net.places),
      tables_kind (input_entries net) (all_tables (input_entry net.transitions) (input_is_table net.transitions) net.inputs),
    )

pub no_wrong_kind : (net : NetLists) → finding wrong_kind (table (migrated net)) ≡ None
no_wrong_kind net =
    no_finding wrong_kind net (top_kinds net)
    (found_at_none wrong_kind section.Transition transition_entry transition_kinds net.transitions)
    (found_at_none wrong_kind section.Place (place_entry net.transitions) (place_kinds net.transitions) net.places)
    (found_at_none wrong_kind section.Input (input_entry net.transitions) (input_kinds net.transitions) net.inputs)

-- needed keys
transition_keys_there : (n : ℕ) (t : Transition) → missing_key (spot_at section.Transition n) (transition_entry t) ≡ None
unfolding missing_key has_needed is_there fields_of
transition_keys_there n t = rw (transition_name t)

place_keys_there : (ts : List Transition) (n : ℕ) (p : Place) → missing_key (spot_at section.Place n) (place_entry ts p) ≡ None
unfolding missing_key has_needed is_there fields_of
place_keys_there ts n p = rw (place_name ts p, place_from ts p, place_to ts p)

both_halves : (again : Option Again) →
    (if is_some (option_map (λ a. number_data a.every) again) && not (is_some (option_map (λ a. number_data a.gap) again)) then Some key.Gap
    else if is_some (option_map (λ a. number_data a.gap) again) && not (is_some (option_map (λ a. number_data a.every) again)) then Some key.Every else None) ≡ None
both_halves None = refl
both_halves (Some a) = refl

no_lone_key : (ts : List Transition) (l : InputList) → lone_key (input_entry ts l) ≡ None
unfolding lone_key is_there
no_lone_key ts l = rw (input_every ts l, input_gap ts l) (both_halves l.again)

input_keys_there : (ts : List Transition) (n : ℕ) (l : InputList) → missing_key (spot_at section.Input n) (input_entry ts l) ≡ None
unfolding missing_key has_needed is_there fields_of
input_keys_there ts n l = rw (input_owner ts l, input_dates ts l, no_lone_key ts l)

top_keys_there : (net : NetLists) → missing_key (spot_at section.Top 0) (table (migrated net)) ≡ None
unfolding missing_key has_needed fields_of
top_keys_there net = refl

pub no_missing_key : (net : NetLists) → finding missing_key (table (migrated net)) ≡ None
no_missing_key net =
    no_finding missing_key net (top_keys_there net)
    (found_at_none missing_key section.Transition transition_entry transition_keys_there net.transitions)
    (found_at_none missing_key section.Place (place_entry net.transitions) (place_keys_there net.transitions) net.places)
    (found_at_none missing_key section.Input (input_entry net.transitions) (input_keys_there net.transitions) net.inputs)

-- names
transition_named : (n : ℕ) (t : Transition) → IsTrue (is_name t.name) → bad_name (spot_at section.Transition n) (transition_entry t) ≡ None
unfolding bad_name
transition_named n t h = rw (transition_text t, h)

place_named : (ts : List Transition) (n : ℕ) (p : Place) → IsTrue (is_name p.name) → bad_name (spot_at section.Place n) (place_entry ts p) ≡ None
unfolding bad_name
place_named ts n p h = rw (place_text ts p, h)

input_unnamed : (ts : List Transition) (n : ℕ) (l : InputList) → bad_name (spot_at section.Input n) (input_entry ts l) ≡ None
unfolding bad_name
input_unnamed ts n l = refl

top_unnamed : (net : NetLists) → bad_name (spot_at section.Top 0) (table (migrated net)) ≡ None
unfolding bad_name
top_unnamed net = refl

pub no_bad_name : (net : NetLists) → IsNet net → finding bad_name (table (migrated net)) ≡ None
no_bad_name net rules =
    no_finding bad_name net (top_unnamed net)
    (found_nowhere bad_name section.Transition transition_entry (λ (t : Transition). IsTrue (is_name t.name)) transition_named 1 net.transitions rules.transition_names)
    (found_nowhere bad_name section.Place (place_entry net.transitions) (λ (p : Place). IsTrue (is_name p.name)) (place_named net.transitions) 1 net.places rules.place_names)
    (found_at_none bad_name section.Input (input_entry net.transitions) (input_unnamed net.transitions) net.inputs)
