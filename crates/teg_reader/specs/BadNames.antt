-- The fifth pass: names that are none.
use Rattle.std.specs.Prelude.{Bool, true, false, not, ◌&&◌, if◌then◌else◌, Some, None}
use Rattle.toml.specs.Data.{Data}
use Rattle.teg_net.specs.Names.{is_name}
use Rattle.teg_reader.specs.declared.keys.Key.TheVariants as key
use Rattle.teg_reader.specs.declared.refusals.Section.{Section}
use Rattle.teg_reader.specs.declared.refusals.Section.TheVariants as section
use Rattle.teg_reader.specs.declared.refusals.ReadRefusal.TheVariants as refusal
use Rattle.teg_reader.specs.DocumentTrees.{text_at}
use Rattle.teg_reader.specs.PassWalks.{Look}

-- the entry's name is a name
abbrev pub has_good_name : Data → Bool
has_good_name d = is_name (text_at key.Name d)

-- the entries of this section have names
abbrev pub is_named : Section → Bool
is_named section.Transition = true
is_named section.Place = true
is_named _ = false

-- the name of a transition or place is none
unfoldable pub bad_name : Look
bad_name spot d = if is_named spot.section && not (has_good_name d) then Some (refusal.BadName spot) else None
