-- The sixth pass: texts that stand twice.
use Rattle.std.specs.Prelude.{◌-◌, if◌then◌else◌, List, map, take, Option, Some, None}
use Rattle.toml.specs.Data.{Data}
use Rattle.teg_reader.specs.declared.keys.Key.{Key}
use Rattle.teg_reader.specs.declared.keys.Key.TheVariants as key
use Rattle.teg_reader.specs.declared.refusals.Section.{Section}
use Rattle.teg_reader.specs.declared.refusals.Section.TheVariants as section
use Rattle.teg_reader.specs.declared.refusals.ReadRefusal.{ReadRefusal}
use Rattle.teg_reader.specs.declared.refusals.ReadRefusal.TheVariants as refusal
use Rattle.teg_reader.specs.TextLists.{is_among}
use Rattle.teg_reader.specs.DocumentTrees.{text_at, array_at, or_else}
use Rattle.teg_reader.specs.PassWalks.{Look, first_finding}

-- the entry's text at the key is that of an earlier one of the entries
unfoldable pub repeats_earlier : Key → List Data → Look
repeats_earlier key entries spot d =
    if is_among (map (text_at key) (take (spot.position - 1) entries)) (text_at key d)
    then Some (refusal.Repeated spot) else None

-- the first entry whose text at the key is that of an earlier one
unfoldable pub repeated_at : Section → Key → List Data → Option ReadRefusal
repeated_at section key entries = first_finding (repeats_earlier key entries) section 1 entries

-- the first transition or place whose name is an earlier one's, or second list of one transition
unfoldable pub repeated : Data → Option ReadRefusal
repeated top =
    or_else (repeated_at section.Transition key.Name (array_at key.Transition top))
    (or_else (repeated_at section.Place key.Name (array_at key.Place top))
    (repeated_at section.Input key.Transition (array_at key.Input top)))
