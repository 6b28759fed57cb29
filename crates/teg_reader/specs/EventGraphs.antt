-- The passes on the shape of the graph: a place joins one transition to one, which may be itself, and enters no input.
use Rattle.std.specs.Prelude.{ℕ, Bool, false, ◌==◌, ◌&&◌, if◌then◌else◌, List, [], ◌∷◌, length, Option, Some, None, bytes_eq, codes}
use Rattle.std.specs.Option.{option_map_or}
use Rattle.toml.specs.Data.{Data}
use Rattle.teg_reader.specs.declared.keys.Key.{Key}
use Rattle.teg_reader.specs.declared.keys.Key.TheVariants as key
use Rattle.teg_reader.specs.declared.refusals.ReadRefusal.{ReadRefusal}
use Rattle.teg_reader.specs.declared.refusals.ReadRefusal.TheVariants as refusal
use Rattle.teg_reader.specs.DocumentTrees.{text_at, texts_at, entry_named}

-- there is no transition
unfoldable pub no_transitions : List Data → Option ReadRefusal
no_transitions [] = Some refusal.NoTransitions
no_transitions (t ∷ ts) = None

-- the place has not one producer and one consumer
unfoldable pub not_event_graph : Data → Option ReadRefusal
not_event_graph d =
    if (length (texts_at key.From d) == 1) && (length (texts_at key.To d) == 1) then None
    else Some (refusal.NotEventGraph (text_at key.Name d) (length (texts_at key.From d)) (length (texts_at key.To d)))

-- the first of the texts, or the empty text
abbrev pub first_text : List (List ℕ) → List ℕ
first_text [] = []
first_text (text ∷ texts) = text

-- the first text at the key, or the empty text
unfoldable pub end_at : Key → Data → List ℕ
end_at key d = first_text (texts_at key d)

-- the entry has the role of an input
unfoldable pub is_input_entry : Data → Bool
is_input_entry d = bytes_eq (text_at key.Role d) (codes "input")

-- the transition of this name is an input
unfoldable pub is_input_named : List Data → List ℕ → Bool
is_input_named transitions text = option_map_or is_input_entry (entry_named text transitions) false

-- the place enters an input
unfoldable pub input_has_upstream : List Data → Data → Option ReadRefusal
input_has_upstream transitions d =
    if is_input_named transitions (end_at key.To d) then Some (refusal.InputHasUpstream (text_at key.Name d)) else None
