-- The third pass: keys at which another kind stands.
use Rattle.std.specs.Prelude.{Bool, true, false, ◌||◌, if◌then◌else◌, List, [], ◌∷◌, Option, Some, None, option_map}
use Rattle.std.specs.List.{list_all}
use Rattle.std.specs.Option.{option_map_or}
use Rattle.toml.specs.Data.{Data}
use Rattle.teg_reader.specs.declared.keys.Key.{Key}
use Rattle.teg_reader.specs.declared.fields.Kind.{Kind}
use Rattle.teg_reader.specs.declared.fields.Kind.TheVariants.{Text, Integer, Texts, Integers, Tables}
use Rattle.teg_reader.specs.declared.fields.Field.{Field}
use Rattle.teg_reader.specs.declared.refusals.ReadRefusal.TheVariants as refusal
use Rattle.teg_reader.specs.Fields.{fields_of}
use Rattle.teg_reader.specs.DocumentTrees.{data_at, elements_of, is_text, is_integer, is_table}
use Rattle.teg_reader.specs.PassWalks.{Look}

-- the value is an array whose elements all pass the test
abbrev pub is_array_of : (Data → Bool) → Data → Bool
is_array_of test d = option_map_or (list_all test) (elements_of d) false

-- the value is of this kind
unfoldable pub is_kind : Kind → Data → Bool
is_kind Text d = is_text d
is_kind Integer d = is_integer d
is_kind Texts d = is_text d || is_array_of is_text d
is_kind Integers d = is_array_of is_integer d
is_kind Tables d = is_array_of is_table d

-- what stands at the field's key, if anything, is of the field's kind
unfoldable pub has_kind : Data → Field → Bool
has_kind d f = option_map_or (is_kind f.1) (data_at f.0 d) true

-- the key of the first field that fails the test
abbrev pub first_failing : (Field → Bool) → List Field → Option Key
first_failing passes [] = None
first_failing passes (f ∷ fields) = if passes f then first_failing passes fields else Some f.0

-- the first key at which another kind stands
unfoldable pub wrong_kind : Look
wrong_kind spot d = option_map (λ k. refusal.WrongKind spot k) (first_failing (has_kind d) (fields_of spot.section))
