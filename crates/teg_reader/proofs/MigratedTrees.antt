-- What stands at the keys of a written table.
use Rattle.std.proofs.Common.{◌≡◌, ℕ, ◌≤◌, true, List, [], ◌∷◌, map, codes, Option, Some, None, option_map, option_and_then, All, refl, ap, arith}
use Rattle.std.proofs.lemmas.List.Elements.{All-head, All-tail}
use Rattle.std.specs.List.{list_all}
use Rattle.std.specs.Option.{option_map_or}
use Rattle.toml.specs.Data.{Data, string, array, table, Members, no_members, member, get_member, as_array}
use Rattle.toml.specs.View.{items_of}
use Rattle.teg_net.specs.Nets.{NetLists}
use Rattle.teg_net.specs.declared.entries.Transition.{Transition}
use Rattle.teg_net.specs.declared.entries.Place.{Place}
use Rattle.teg_net.specs.declared.entries.InputList.{InputList}
use Rattle.teg_net.specs.declared.entries.Again.{Again}
use Rattle.teg_reader.specs.declared.keys.Key.TheVariants as key
use Rattle.teg_reader.specs.Keys.{key_text}
use Rattle.teg_reader.specs.DocumentTrees.{listed_data, data_at, array_at, text_at, as_number, is_integer, is_between}
use Rattle.teg_reader.specs.Migrated.{number_data, numbers_data, role_text, name_of, transition_entry, place_entry, input_entry, with_ready, with_again, with_entries, migrated}
use Rattle.teg_reader.proofs.Facts.{le_test}

pub list_of_items : (ds : List Data) → listed_data (items_of ds) ≡ ds
list_of_items [] = refl
list_of_items (d ∷ ds) = ap (λ es. d ∷ es) (list_of_items ds)

pub numbers_back : (ns : List ℕ) → map as_number (map number_data ns) ≡ ns
numbers_back [] = refl
numbers_back (n ∷ ns) = ap (λ ms. n ∷ ms) (numbers_back ns)

pub all_integers : (ns : List ℕ) → list_all is_integer (listed_data (items_of (map number_data ns))) ≡ true
all_integers [] = refl
all_integers (n ∷ ns) = all_integers ns

pub number_between : (low high n : ℕ) → low ≤ n → n ≤ high → is_between low high (number_data n) ≡ true
number_between low high n up down = rw (le_test low n up, le_test n high down)

pub all_between : (high : ℕ) (ns : List ℕ) → All (λ n. n ≤ high) ns → list_all (is_between 0 high) (map number_data ns) ≡ true
all_between high [] h = refl
all_between high (n ∷ ns) h =
    rw (le_test 0 n (omega arith), le_test n high (All-head (λ n. n ≤ high) n ns h), all_between high ns (All-tail (λ n. n ≤ high) n ns h))

-- the list at a key where it has any entries
abbrev pub found_list : List Data → Option Data
found_list [] = None
found_list (d ∷ ds) = Some (array (items_of (d ∷ ds)))

pub listed : (ds : List Data) → option_map_or listed_data (option_and_then as_array (found_list ds)) [] ≡ ds
listed [] = refl
listed (d ∷ ds) = list_of_items (d ∷ ds)

-- a transition
pub transition_name : (t : Transition) → data_at key.Name (transition_entry t) ≡ Some (string t.name)
unfolding transition_entry data_at key_text
transition_name t = refl

pub transition_role : (t : Transition) → data_at key.Role (transition_entry t) ≡ Some (string (role_text t.role))
unfolding transition_entry data_at key_text
transition_role t = refl

pub transition_duration : (t : Transition) → data_at key.Duration (transition_entry t) ≡ None
unfolding transition_entry data_at key_text
transition_duration t = refl

pub transition_text : (t : Transition) → text_at key.Name (transition_entry t) ≡ t.name
unfolding text_at
transition_text t = rw (transition_name t)

-- a place
ready_found : (ready : List ℕ) (to tokens : Data) → get_member (codes "ready")
    (with_ready ready (member (codes "to") to (member (codes "tokens") tokens no_members))) ≡ found_list (map number_data ready)
unfolding key_text
ready_found [] to tokens = refl
ready_found (d ∷ ds) to tokens = refl

to_found : (ready : List ℕ) (to tokens : Data) → get_member (codes "to") (with_ready ready (member (codes "to") to (member (codes "tokens") tokens no_members))) ≡ Some to
unfolding key_text
to_found [] to tokens = refl
to_found (d ∷ ds) to tokens = refl

tokens_found : (ready : List ℕ) (to tokens : Data) → get_member (codes "tokens") (with_ready ready (member (codes "to") to (member (codes "tokens") tokens no_members))) ≡ Some tokens
unfolding key_text
tokens_found [] to tokens = refl
tokens_found (d ∷ ds) to tokens = refl

pub place_name : (ts : List Transition) (p : Place) → data_at key.Name (place_entry ts p) ≡ Some (string p.name)
unfolding place_entry data_at key_text
place_name ts p = refl

pub place_from : (ts : List Transition) (p : Place) → data_at key.From (place_entry ts p) ≡ Some (string (name_of ts p.from))
unfolding place_entry data_at key_text
place_from ts p = refl

pub place_to : (ts : List Transition) (p : Place) → data_at key.To (place_entry ts p) ≡ Some (string (name_of ts p.to))
unfolding place_entry data_at key_text
place_to ts p = to_found p.ready _ _

pub place_hold : (ts : List Transition) (p : Place) → data_at key.Hold (place_entry ts p) ≡ Some (number_data p.hold)
unfolding place_entry data_at key_text
place_hold ts p = refl

pub place_tokens : (ts : List Transition) (p : Place) → data_at key.Tokens (place_entry ts p) ≡ Some (number_data p.tokens)
unfolding place_entry data_at key_text
place_tokens ts p = tokens_found p.ready _ _

pub place_ready : (ts : List Transition) (p : Place) → data_at key.Ready (place_entry ts p) ≡ found_list (map number_data p.ready)
unfolding place_entry data_at key_text
place_ready ts p = ready_found p.ready _ _

pub ready_list : (ts : List Transition) (p : Place) → array_at key.Ready (place_entry ts p) ≡ map number_data p.ready
unfolding array_at
ready_list ts p = rw (place_ready ts p) (listed (map number_data p.ready))

pub place_text : (ts : List Transition) (p : Place) → text_at key.Name (place_entry ts p) ≡ p.name
unfolding text_at
place_text ts p = rw (place_name ts p)

-- an input list
every_found : (again : Option Again) (name : Data) → get_member (codes "every") (with_again again (member (codes "transition") name no_members)) ≡ option_map (λ a. number_data a.every) again
unfolding key_text
every_found None name = refl
every_found (Some a) name = refl

gap_found : (again : Option Again) (name : Data) → get_member (codes "gap") (with_again again (member (codes "transition") name no_members)) ≡ option_map (λ a. number_data a.gap) again
unfolding key_text
gap_found None name = refl
gap_found (Some a) name = refl

owner_found : (again : Option Again) (name : Data) → get_member (codes "transition") (with_again again (member (codes "transition") name no_members)) ≡ Some name
unfolding key_text
owner_found None name = refl
owner_found (Some a) name = refl

pub input_owner : (ts : List Transition) (l : InputList) → data_at key.Transition (input_entry ts l) ≡ Some (string (name_of ts l.transition))
unfolding input_entry data_at key_text
input_owner ts l = owner_found l.again _

pub input_dates : (ts : List Transition) (l : InputList) → data_at key.Dates (input_entry ts l) ≡ Some (numbers_data l.dates)
unfolding input_entry data_at key_text
input_dates ts l = refl

pub input_every : (ts : List Transition) (l : InputList) → data_at key.Every (input_entry ts l) ≡ option_map (λ a. number_data a.every) l.again
unfolding input_entry data_at key_text
input_every ts l = every_found l.again _

pub input_gap : (ts : List Transition) (l : InputList) → data_at key.Gap (input_entry ts l) ≡ option_map (λ a. number_data a.gap) l.again
unfolding input_entry data_at key_text
input_gap ts l = gap_found l.again _

pub dates_list : (ts : List Transition) (l : InputList) → array_at key.Dates (input_entry ts l) ≡ map number_data l.dates
unfolding array_at
dates_list ts l = rw (input_dates ts l) (list_of_items (map number_data l.dates))

pub input_text : (ts : List Transition) (l : InputList) → text_at key.Transition (input_entry ts l) ≡ name_of ts l.transition
unfolding text_at
input_text ts l = rw (input_owner ts l)

-- the tables of a net's entries
abbrev pub transition_entries : NetLists → List Data
transition_entries net = map transition_entry net.transitions

abbrev pub place_entries : NetLists → List Data
place_entries net = map (place_entry net.transitions) net.places

abbrev pub input_entries : NetLists → List Data
input_entries net = map (input_entry net.transitions) net.inputs

-- the members of a net, by their lists
abbrev members_with : List Data → List Data → List Data → Members
members_with is ps ts = with_entries key.Input is (with_entries key.Place ps (with_entries key.Transition ts (member (key_text key.Version) (number_data 2) no_members)))

version_found : (is ps ts : List Data) → get_member (codes "version") (members_with is ps ts) ≡ Some (number_data 2)
unfolding key_text
version_found [] [] [] = refl
version_found [] [] (t ∷ ts) = refl
version_found [] (p ∷ ps) [] = refl
version_found [] (p ∷ ps) (t ∷ ts) = refl
version_found (i ∷ is) [] [] = refl
version_found (i ∷ is) [] (t ∷ ts) = refl
version_found (i ∷ is) (p ∷ ps) [] = refl
version_found (i ∷ is) (p ∷ ps) (t ∷ ts) = refl

transitions_found : (is ps ts : List Data) → get_member (codes "transition") (members_with is ps ts) ≡ found_list ts
unfolding key_text
transitions_found [] [] [] = refl
transitions_found [] [] (t ∷ ts) = refl
transitions_found [] (p ∷ ps) [] = refl
transitions_found [] (p ∷ ps) (t ∷ ts) = refl
transitions_found (i ∷ is) [] [] = refl
transitions_found (i ∷ is) [] (t ∷ ts) = refl
transitions_found (i ∷ is) (p ∷ ps) [] = refl
transitions_found (i ∷ is) (p ∷ ps) (t ∷ ts) = refl

places_found : (is ps ts : List Data) → get_member (codes "place") (members_with is ps ts) ≡ found_list ps
unfolding key_text
places_found [] [] [] = refl
places_found [] [] (t ∷ ts) = refl
places_found [] (p ∷ ps) ts = refl
places_found (i ∷ is) [] [] = refl
places_found (i ∷ is) [] (t ∷ ts) = refl
places_found (i ∷ is) (p ∷ ps) ts = refl

inputs_found : (is ps ts : List Data) → get_member (codes "input") (members_with is ps ts) ≡ found_list is
unfolding key_text
inputs_found [] [] [] = refl
inputs_found [] [] (t ∷ ts) = refl
inputs_found [] (p ∷ ps) [] = refl
inputs_found [] (p ∷ ps) (t ∷ ts) = refl
inputs_found (i ∷ is) ps ts = refl

pub top_version : (net : NetLists) → data_at key.Version (table (migrated net)) ≡ Some (number_data 2)
unfolding migrated data_at key_text
top_version net = version_found (input_entries net) (place_entries net) (transition_entries net)

pub top_transitions : (net : NetLists) → data_at key.Transition (table (migrated net)) ≡ found_list (transition_entries net)
unfolding migrated data_at key_text
top_transitions net = transitions_found (input_entries net) (place_entries net) (transition_entries net)

pub top_places : (net : NetLists) → data_at key.Place (table (migrated net)) ≡ found_list (place_entries net)
unfolding migrated data_at key_text
top_places net = places_found (input_entries net) (place_entries net) (transition_entries net)

pub top_inputs : (net : NetLists) → data_at key.Input (table (migrated net)) ≡ found_list (input_entries net)
unfolding migrated data_at key_text
top_inputs net = inputs_found (input_entries net) (place_entries net) (transition_entries net)

pub transitions_at : (net : NetLists) → array_at key.Transition (table (migrated net)) ≡ transition_entries net
unfolding array_at
transitions_at net = rw (top_transitions net) (listed (transition_entries net))

pub places_at : (net : NetLists) → array_at key.Place (table (migrated net)) ≡ place_entries net
unfolding array_at
places_at net = rw (top_places net) (listed (place_entries net))

pub inputs_at : (net : NetLists) → array_at key.Input (table (migrated net)) ≡ input_entries net
unfolding array_at
inputs_at net = rw (top_inputs net) (listed (input_entries net))
