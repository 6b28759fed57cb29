-- Each pass tells plain spots.
use Rattle.std.proofs.Common.{◌≢◌, ℕ, ◌+◌, Bool, true, false, if◌then◌else◌, List, [], ◌∷◌, Option, Some, None, option_map, Err, refl, subst}
use Rattle.std.specs.Prelude.{IfSome, IfErr}
use Rattle.std.specs.Option.{option_map_or}
use Rattle.toml.specs.Data.{Data, Members, table}
use Rattle.teg_net.specs.Nets.{NetLists}
use Rattle.teg_reader.specs.declared.keys.Key.{Key}
use Rattle.teg_reader.specs.declared.keys.Key.TheVariants as key
use Rattle.teg_reader.specs.declared.refusals.Section.{Section}
use Rattle.teg_reader.specs.declared.refusals.Section.TheVariants as section
use Rattle.teg_reader.specs.declared.refusals.Spot.{Spot}
use Rattle.teg_reader.specs.declared.refusals.ReadRefusal.{ReadRefusal}
use Rattle.teg_reader.specs.declared.refusals.ReadRefusal.TheVariants.{NotToml}
use Rattle.teg_reader.specs.DocumentTrees.{array_at, entry_names, or_else}
use Rattle.teg_reader.specs.PassWalks.{Look, spot_at, first_finding, first_of_entries, finding}
use Rattle.teg_reader.specs.UnknownKeys.{is_second, unknown_key}
use Rattle.teg_reader.specs.WrongKinds.{wrong_kind}
use Rattle.teg_reader.specs.MissingKeys.{missing_key}
use Rattle.teg_reader.specs.BadNames.{bad_name}
use Rattle.teg_reader.specs.Repeats.{repeats_earlier, repeated_at, repeated}
use Rattle.teg_reader.specs.Ranges.{out_of_range}
use Rattle.teg_reader.specs.UnknownTransitions.{unknown_transition}
use Rattle.teg_reader.specs.EventGraphs.{no_transitions, not_event_graph, input_has_upstream}
use Rattle.teg_reader.specs.InputLists.{bad_input}
use Rattle.teg_reader.specs.ReadyDatePass.{bad_ready}
use Rattle.teg_reader.specs.Holds.{too_slow}
use Rattle.teg_reader.specs.Documents.{tree_of_bytes, bad_entries, bad_graph, bad_places, refused, verdict, tree_document, document}
use Rattle.teg_reader.specs.RefusalSpots.{IsPlainSpot, IsPlainRefusal, RefusalsArePlain}

-- what is found, if anything, is plain
abbrev IsPlainFinding : Option ReadRefusal → Type 0
IsPlainFinding found = IfSome found IsPlainRefusal

-- a look tells only plain refusals at plain spots
abbrev IsPlainLook : Look → Type 0
IsPlainLook look = (spot : Spot) (d : Data) → IsPlainSpot spot → IsPlainFinding (look spot d)

plain_mapped : {A : Type 0} (f : A → ReadRefusal) (found : Option A) → ((x : A) → IsPlainRefusal (f x)) → IsPlainFinding (option_map f found)
plain_mapped f None h = tt
plain_mapped f (Some x) h = h x

plain_if : (b : Bool) (r : ReadRefusal) → IsPlainRefusal r → IsPlainFinding (if b then Some r else None)
plain_if true r h = h
plain_if false r h = tt

plain_unless : (b : Bool) (r : ReadRefusal) → IsPlainRefusal r → IsPlainFinding (if b then None else Some r)
plain_unless true r h = tt
plain_unless false r h = h

plain_either : (a b : Option ReadRefusal) → IsPlainFinding a → IsPlainFinding b → IsPlainFinding (or_else a b)
plain_either None b g h = h
plain_either (Some r) b g h = g

plain_first : (look : Look) (part : Section) (n : ℕ) (es : List Data) → IsPlainLook look → part ≢ section.Top → IsPlainFinding (first_finding look part n es)
plain_first look part n [] plain below = tt
plain_first look part n (e ∷ es) plain below =
    plain_either (look (spot_at part n) e) (first_finding look part (n + 1) es) (plain (spot_at part n) e (λ top. absurd (below top))) (plain_first look part (n + 1) es plain below)

plain_pass : (look : Look) (top : Data) → IsPlainLook look → IsPlainFinding (finding look top)
unfolding finding
plain_pass look top plain =
    plain_either (look (spot_at section.Top 0) top) _ (plain (spot_at section.Top 0) top (λ _. refl))
    (plain_either (first_finding look section.Transition 1 (array_at key.Transition top)) _ (plain_first look section.Transition 1 (array_at key.Transition top) plain (λ e. cc))
    (plain_either (first_finding look section.Place 1 (array_at key.Place top)) _ (plain_first look section.Place 1 (array_at key.Place top) plain (λ e. cc))
    (plain_first look section.Input 1 (array_at key.Input top) plain (λ e. cc))))

plain_of : (look : Data → Option ReadRefusal) (es : List Data) → ((d : Data) → IsPlainFinding (look d)) → IsPlainFinding (first_of_entries look es)
plain_of look [] plain = tt
plain_of look (e ∷ es) plain = plain_either (look e) (first_of_entries look es) (plain e) (plain_of look es plain)

unknown_keys : (second : Bool) → IsPlainLook (unknown_key second)
unfolding unknown_key
unknown_keys second spot d h = plain_mapped _ _ (λ k. record { spot = h; no_memory = refl })

wrong_kinds : IsPlainLook wrong_kind
unfolding wrong_kind
wrong_kinds spot d h = plain_mapped _ _ (λ k. record { spot = h; no_memory = refl })

missing_keys : IsPlainLook missing_key
unfolding missing_key
missing_keys spot d h = plain_mapped _ _ (λ k. record { spot = h; no_memory = refl })

bad_names : IsPlainLook bad_name
unfolding bad_name
bad_names spot d h = plain_if _ _ (record { spot = h; no_memory = refl })

repeats_plain : (key : Key) (es : List Data) → IsPlainLook (repeats_earlier key es)
unfolding repeats_earlier
repeats_plain key es spot d h = plain_if _ _ (record { spot = h; no_memory = refl })

repeated_plain : (top : Data) → IsPlainFinding (repeated top)
unfolding repeated repeated_at
repeated_plain top =
    plain_either (repeated_at section.Transition key.Name (array_at key.Transition top)) _
    (plain_first _ section.Transition 1 (array_at key.Transition top) (repeats_plain key.Name (array_at key.Transition top)) (λ e. cc))
    (plain_either (repeated_at section.Place key.Name (array_at key.Place top)) _ (plain_first _ section.Place 1 (array_at key.Place top) (repeats_plain key.Name (array_at key.Place top)) (λ e. cc))
    (plain_first _ section.Input 1 (array_at key.Input top) (repeats_plain key.Transition (array_at key.Input top)) (λ e. cc)))

out_of_ranges : IsPlainLook out_of_range
unfolding out_of_range
out_of_ranges spot d h = plain_mapped _ _ (λ k. record { spot = h; no_memory = refl })

unknown_transitions : (names : List (List ℕ)) → IsPlainLook (unknown_transition names)
unfolding unknown_transition
unknown_transitions names spot d h = plain_mapped _ _ (λ t. record { spot = h; no_memory = refl })

no_transitions_plain : (ts : List Data) → IsPlainFinding (no_transitions ts)
unfolding no_transitions
no_transitions_plain [] = record { spot = tt; no_memory = refl }
no_transitions_plain (t ∷ ts) = tt

not_event_graph_plain : (d : Data) → IsPlainFinding (not_event_graph d)
unfolding not_event_graph
not_event_graph_plain d = plain_unless _ _ (record { spot = tt; no_memory = refl })

entered_plain : (ts : List Data) (d : Data) → IsPlainFinding (input_has_upstream ts d)
unfolding input_has_upstream
entered_plain ts d = plain_if _ _ (record { spot = tt; no_memory = refl })

bad_input_plain : (ts : List Data) (d : Data) → IsPlainFinding (bad_input ts d)
unfolding bad_input
bad_input_plain ts d = plain_mapped _ _ (λ p. record { spot = tt; no_memory = refl })

bad_ready_plain : (d : Data) → IsPlainFinding (bad_ready d)
unfolding bad_ready
bad_ready_plain d = plain_unless _ _ (record { spot = tt; no_memory = refl })

too_slow_plain : (ts : List Data) (d : Data) → IsPlainFinding (too_slow ts d)
unfolding too_slow
too_slow_plain ts d = plain_unless _ _ (record { spot = tt; no_memory = refl })

bad_entries_plain : (top : Data) → IsPlainFinding (bad_entries top)
unfolding bad_entries
bad_entries_plain top =
    plain_either (finding (unknown_key (is_second top)) top) _ (plain_pass (unknown_key (is_second top)) top (unknown_keys (is_second top)))
    (plain_either (finding wrong_kind top) _ (plain_pass wrong_kind top wrong_kinds)
    (plain_either (finding missing_key top) _ (plain_pass missing_key top missing_keys)
    (plain_either (finding bad_name top) _ (plain_pass bad_name top bad_names)
    (plain_either (repeated top) _ (repeated_plain top) (plain_pass out_of_range top out_of_ranges)))))

bad_graph_plain : (top : Data) → IsPlainFinding (bad_graph top)
unfolding bad_graph
bad_graph_plain top =
    let ts : List Data = array_at key.Transition top in
    plain_either (no_transitions ts) _ (no_transitions_plain ts)
    (plain_either (finding (unknown_transition (entry_names ts)) top) _ (plain_pass (unknown_transition (entry_names ts)) top (unknown_transitions (entry_names ts)))
    (plain_either (first_of_entries not_event_graph (array_at key.Place top)) _ (plain_of not_event_graph (array_at key.Place top) not_event_graph_plain)
    (plain_either (first_of_entries (input_has_upstream ts) (array_at key.Place top)) _ (plain_of (input_has_upstream ts) (array_at key.Place top) (entered_plain ts))
    (plain_of (bad_input ts) (array_at key.Input top) (bad_input_plain ts)))))

bad_places_plain : (top : Data) → IsPlainFinding (bad_places top)
unfolding bad_places
bad_places_plain top =
    plain_either (first_of_entries bad_ready (array_at key.Place top)) _ (plain_of bad_ready (array_at key.Place top) bad_ready_plain)
    (plain_of (too_slow (array_at key.Transition top)) (array_at key.Place top) (too_slow_plain (array_at key.Transition top)))

refused_plain : (top : Data) → IsPlainFinding (refused top)
unfolding refused
refused_plain top =
    plain_either (bad_entries top) _ (bad_entries_plain top)
    (plain_either (bad_graph top) (bad_places top) (bad_graph_plain top) (bad_places_plain top))

verdict_plain : (found : Option ReadRefusal) (net : NetLists) → IsPlainFinding found → IfErr (verdict found net) IsPlainRefusal
verdict_plain None net h = tt
verdict_plain (Some r) net h = h

tree_plain : (top : Data) → IfErr (tree_document top) IsPlainRefusal
unfolding tree_document
tree_plain top = verdict_plain (refused top) _ (refused_plain top)

read_plain : (read : Option Members) → IfErr (option_map_or (λ ms. tree_document (table ms)) read (Err NotToml)) IsPlainRefusal
read_plain None = record { spot = tt; no_memory = refl }
read_plain (Some ms) = tree_plain (table ms)

document_plain : (bytes : List ℕ) → IfErr (document bytes) IsPlainRefusal
unfolding document
document_plain bytes = read_plain (tree_of_bytes bytes)

pub plain_documents : RefusalsArePlain
plain_documents bytes refusal is = subst (λ answer. IfErr answer IsPlainRefusal) is (document_plain bytes)
