-- A table that is filled key by key beside the table that is written.
use Rattle.std.proofs.Common.{◌≡◌, ℕ, ◌≤◌, List, [], ◌∷◌, map, Option, Some, None, codes, String, Global, string_bytes, Ordering, Less, Equal, Greater, refl, ◌∙◌, arith}
use Rattle.std.specs.Ordering.{match_ordering}
use Rattle.std.specs.String.{string_cmp}
use Rattle.std.specs.BTreeMap.{insert_entry}
use Rattle.toml.specs.Data.{Data, string, Members, no_members, member, items_depth, members_depth}
use Rattle.toml.specs.View.{view, items_of, members_view}
use Rattle.toml.specs.declared.value.Value.{Value}
use Rattle.teg_net.specs.Nets.{NetLists}
use Rattle.teg_net.specs.declared.entries.Transition.{Transition}
use Rattle.teg_net.specs.declared.entries.Place.{Place}
use Rattle.teg_net.specs.declared.entries.InputList.{InputList}
use Rattle.teg_net.specs.declared.entries.Again.{Again}
use Rattle.teg_reader.specs.declared.keys.Key.{Key}
use Rattle.teg_reader.specs.declared.keys.Key.TheVariants as key
use Rattle.teg_reader.specs.Keys.{key_text}
use Rattle.teg_reader.specs.Migrated.{number_data, name_of, transition_entry, place_entry, input_entry, with_ready, with_again, with_entries, migrated}
use Rattle.teg_reader.specs.Written.{with_member, with_list}

abbrev Entry : Type 0
Entry = String Global × Value

match_members : (o : Ordering) (a b c : List Entry) → members_view (match_ordering o a b c) ≡ match_ordering o (members_view a) (members_view b) (members_view c)
match_members Less a b c = refl
match_members Equal a b c = refl
match_members Greater a b c = refl

pub members_view-insert : (es : List Entry) (k : String Global) (v : Value) → members_view (insert_entry string_cmp es k v) ≡ with_member (string_bytes k) (view v) (members_view es)
members_view-insert [] k v = refl
members_view-insert (e ∷ es) k v = match_members (string_cmp k e.0) _ _ _ ∙ rw (members_view-insert es k v)

-- the lists are put before the version
lists_put : (is ps ts : List Data) (version : Data)
    → with_list key.Input is (with_list key.Place ps (with_list key.Transition ts (member (codes "version") version no_members)))
    ≡ with_entries key.Input is (with_entries key.Place ps (with_entries key.Transition ts (member (codes "version") version no_members)))
unfolding key_text
lists_put [] [] [] version = refl
lists_put [] [] (t ∷ ts) version = refl
lists_put [] (p ∷ ps) [] version = refl
lists_put [] (p ∷ ps) (t ∷ ts) version = refl
lists_put (i ∷ is) [] [] version = refl
lists_put (i ∷ is) [] (t ∷ ts) version = refl
lists_put (i ∷ is) (p ∷ ps) [] version = refl
lists_put (i ∷ is) (p ∷ ps) (t ∷ ts) version = refl

pub table_put : (net : NetLists)
    → with_list key.Input (map (input_entry net.transitions) net.inputs)
    (with_list key.Place (map (place_entry net.transitions) net.places)
    (with_list key.Transition (map transition_entry net.transitions) (with_member (key_text key.Version) (number_data 2) no_members)))
    ≡ migrated net
unfolding key_text migrated
table_put net = lists_put (map (input_entry net.transitions) net.inputs) (map (place_entry net.transitions) net.places) (map transition_entry net.transitions) (number_data 2)

-- the table is not deep
numbers_depth : (ns : List ℕ) → items_depth (items_of (map number_data ns)) ≤ 0
numbers_depth [] = omega arith
numbers_depth (n ∷ ns) = let rest = numbers_depth ns in omega arith

transitions_depth : (ts : List Transition) → items_depth (items_of (map transition_entry ts)) ≤ 1
unfolding transition_entry
transitions_depth [] = omega arith
transitions_depth (t ∷ ts) = let rest = transitions_depth ts in omega arith

ready_depth : (ready : List ℕ) (ms : Members) → members_depth ms ≤ 0 → members_depth (with_ready ready ms) ≤ 1
ready_depth [] ms h = omega arith
ready_depth (d ∷ ds) ms h = let rest = numbers_depth (d ∷ ds) in omega arith

places_depth : (ts : List Transition) (ps : List Place) → items_depth (items_of (map (place_entry ts) ps)) ≤ 2
unfolding place_entry
places_depth ts [] = omega arith
places_depth ts (p ∷ ps) =
    let rest = places_depth ts ps in
    let ready = ready_depth p.ready (member (key_text key.To) (string (name_of ts p.to)) (member (key_text key.Tokens) (number_data p.tokens) no_members)) (omega arith) in
    omega arith

again_depth : (again : Option Again) (ms : Members) → members_depth ms ≤ 0 → members_depth (with_again again ms) ≤ 0
again_depth None ms h = omega arith
again_depth (Some a) ms h = omega arith

inputs_depth : (ts : List Transition) (ls : List InputList) → items_depth (items_of (map (input_entry ts) ls)) ≤ 2
unfolding input_entry
inputs_depth ts [] = omega arith
inputs_depth ts (l ∷ ls) =
    let rest = inputs_depth ts ls in
    let dates = numbers_depth l.dates in
    let again = again_depth l.again (member (key_text key.Transition) (string (name_of ts l.transition)) no_members) (omega arith) in
    omega arith

entries_depth : (k : Key) (ds : List Data) (ms : Members) → items_depth (items_of ds) ≤ 2 → members_depth ms ≤ 3 → members_depth (with_entries k ds ms) ≤ 3
entries_depth k [] ms h rest = omega arith
entries_depth k (d ∷ ds) ms h rest = omega arith

pub net_depth : (net : NetLists) → members_depth (migrated net) ≤ 80
unfolding migrated
net_depth net =
    let ts = transitions_depth net.transitions in
    let ps = places_depth net.transitions net.places in
    let is = inputs_depth net.transitions net.inputs in
    let a = entries_depth key.Transition (map transition_entry net.transitions) (member (key_text key.Version) (number_data 2) no_members) (omega arith) (omega arith) in
    let b = entries_depth key.Place (map (place_entry net.transitions) net.places) _ ps a in
    let c = entries_depth key.Input (map (input_entry net.transitions) net.inputs) _ is b in
    omega arith
