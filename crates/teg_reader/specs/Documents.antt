-- What the bytes of a net file say: the first finding of the passes in order, or the net of the entries.
use Rattle.std.specs.Prelude.{◌≡◌, ℕ, false, List, Option, Some, None, Result, Ok, Err, if◌then◌else◌}
use Rattle.std.specs.Str.{is_utf8}
use Rattle.std.specs.Option.{option_map_or}
use Rattle.toml.specs.Data.{Data, Members, table}
use Rattle.toml.specs.Parse.{parse_document}
use Rattle.teg_net.specs.Nets.{NetLists}
use Rattle.teg_reader.specs.declared.keys.Key.TheVariants as key
use Rattle.teg_reader.specs.declared.refusals.ReadRefusal.{ReadRefusal}
use Rattle.teg_reader.specs.declared.refusals.ReadRefusal.TheVariants.{NotToml}
use Rattle.teg_reader.specs.DocumentTrees.{array_at, entry_names, or_else}
use Rattle.teg_reader.specs.PassWalks.{finding, first_of_entries, is_memory}
use Rattle.teg_reader.specs.UnknownKeys.{is_second, unknown_key}
use Rattle.teg_reader.specs.WrongKinds.{wrong_kind}
use Rattle.teg_reader.specs.MissingKeys.{missing_key}
use Rattle.teg_reader.specs.BadNames.{bad_name}
use Rattle.teg_reader.specs.Repeats.{repeated}
use Rattle.teg_reader.specs.Ranges.{out_of_range}
use Rattle.teg_reader.specs.UnknownTransitions.{unknown_transition}
use Rattle.teg_reader.specs.EventGraphs.{no_transitions, not_event_graph, input_has_upstream}
use Rattle.teg_reader.specs.InputLists.{bad_input}
use Rattle.teg_reader.specs.ReadyDatePass.{bad_ready}
use Rattle.teg_reader.specs.Holds.{too_slow}
use Rattle.teg_reader.specs.NetOf.{net_of}

-- the table that the bytes are, where they are a text that the grammar of TOML reads
unfoldable pub tree_of_bytes : List ℕ → Option Members
tree_of_bytes bytes = if is_utf8 bytes then parse_document bytes else None

-- what is wrong with the keys, kinds, names and ranges of the entries
unfoldable pub bad_entries : Data → Option ReadRefusal
bad_entries top =
    or_else (finding (unknown_key (is_second top)) top)
    (or_else (finding wrong_kind top)
    (or_else (finding missing_key top)
    (or_else (finding bad_name top) (or_else (repeated top) (finding out_of_range top)))))

-- what is wrong with the graph that the entries make
unfoldable pub bad_graph : Data → Option ReadRefusal
bad_graph top =
    or_else (no_transitions (array_at key.Transition top))
    (or_else (finding (unknown_transition (entry_names (array_at key.Transition top))) top)
    (or_else (first_of_entries not_event_graph (array_at key.Place top))
    (or_else (first_of_entries (input_has_upstream (array_at key.Transition top)) (array_at key.Place top))
    (first_of_entries (bad_input (array_at key.Transition top)) (array_at key.Input top)))))

-- what is wrong with the ready dates and the holds of the places
unfoldable pub bad_places : Data → Option ReadRefusal
bad_places top =
    or_else (first_of_entries bad_ready (array_at key.Place top))
    (first_of_entries (too_slow (array_at key.Transition top)) (array_at key.Place top))

-- the first finding of the passes over the tree
unfoldable pub refused : Data → Option ReadRefusal
refused top = or_else (bad_entries top) (or_else (bad_graph top) (bad_places top))

-- the first finding of the passes, or the net
abbrev pub verdict : Option ReadRefusal → NetLists → Result NetLists ReadRefusal
verdict None net = Ok net
verdict (Some refusal) net = Err refusal

-- what a tree says
unfoldable pub tree_document : Data → Result NetLists ReadRefusal
tree_document top = verdict (refused top) (net_of top)

-- the net that the bytes say, or why they say none
unfoldable pub document : List ℕ → Result NetLists ReadRefusal
document bytes = option_map_or (λ ms. tree_document (table ms)) (tree_of_bytes bytes) (Err NotToml)

-- the answer is this one, or want of memory
abbrev pub AnswersAsMeant : {V : Type 0} → Result V ReadRefusal → Result V ReadRefusal → Type 0
AnswersAsMeant meant (Ok value) = meant ≡ Ok value
AnswersAsMeant meant (Err refusal) = is_memory refusal ≡ false → meant ≡ Err refusal
