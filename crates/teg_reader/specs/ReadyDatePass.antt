-- The thirteenth pass: ready dates of another number than the tokens.
use Rattle.std.specs.Prelude.{ℕ, Bool, not, ◌||◌, ◌==◌, if◌then◌else◌, List, map, length, Option, Some, None}
use Rattle.toml.specs.Data.{Data}
use Rattle.teg_reader.specs.declared.keys.Key.TheVariants as key
use Rattle.teg_reader.specs.declared.refusals.ReadRefusal.{ReadRefusal}
use Rattle.teg_reader.specs.declared.refusals.ReadRefusal.TheVariants as refusal
use Rattle.teg_reader.specs.DocumentTrees.{is_there, text_at, array_at, number_at, as_number}

-- the ready dates of the place
unfoldable pub ready_of : Data → List ℕ
ready_of d = map as_number (array_at key.Ready d)

-- the place has no list of ready dates, or a date for each of its tokens
abbrev pub has_ready_for_each : Data → Bool
has_ready_for_each d = not (is_there key.Ready d) || (length (array_at key.Ready d) == number_at key.Tokens d)

-- the place has ready dates of another number than its tokens
unfoldable pub bad_ready : Data → Option ReadRefusal
bad_ready d =
    if has_ready_for_each d then None
    else Some (refusal.BadReady (text_at key.Name d) (length (array_at key.Ready d)) (number_at key.Tokens d))
