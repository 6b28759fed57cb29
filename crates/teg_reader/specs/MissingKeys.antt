-- The fourth pass: keys that are needed and absent.
use Rattle.std.specs.Prelude.{Bool, not, ◌&&◌, ◌||◌, if◌then◌else◌, Option, Some, None, option_map}
use Rattle.toml.specs.Data.{Data}
use Rattle.teg_reader.specs.declared.keys.Key.{Key}
use Rattle.teg_reader.specs.declared.keys.Key.TheVariants as key
use Rattle.teg_reader.specs.declared.fields.Field.{Field}
use Rattle.teg_reader.specs.declared.refusals.Section.{Section}
use Rattle.teg_reader.specs.declared.refusals.Section.TheVariants as section
use Rattle.teg_reader.specs.declared.refusals.ReadRefusal.TheVariants as refusal
use Rattle.teg_reader.specs.Fields.{fields_of}
use Rattle.teg_reader.specs.DocumentTrees.{is_there, or_else}
use Rattle.teg_reader.specs.WrongKinds.{first_failing}
use Rattle.teg_reader.specs.PassWalks.{Look}

-- the field is not needed, or something stands at its key
unfoldable pub has_needed : Data → Field → Bool
has_needed d f = not f.2 || is_there f.0 d

-- the one of `every` and `gap` that is absent where the other stands
unfoldable pub lone_key : Data → Option Key
lone_key d =
    if is_there key.Every d && not (is_there key.Gap d) then Some key.Gap
    else if is_there key.Gap d && not (is_there key.Every d) then Some key.Every else None

-- of an input entry, the one of `every` and `gap` that is absent where the other stands; other entries have neither
abbrev pub half_of_again : Section → Data → Option Key
half_of_again section.Input d = lone_key d
half_of_again _ d = None

-- the first needed key that is absent; then one of `every` and `gap` without the other
unfoldable pub missing_key : Look
missing_key spot d =
    option_map (λ k. refusal.MissingKey spot k)
    (or_else (first_failing (has_needed d) (fields_of spot.section)) (half_of_again spot.section d))
