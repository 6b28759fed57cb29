-- How the table of a net is laid out as a text.
use Rattle.std.specs.Prelude.{ℕ, false, List}
use Rattle.toml.specs.Text.{IsDocumentText}
use Rattle.teg_net.specs.Nets.{NetLists}
use Rattle.teg_reader.specs.Migrated.{migrated}

-- the bytes write the table of the net as `toml` lays it out, arrays of numbers on one line
abbrev pub IsLaidOut : NetLists → List ℕ → Type 0
IsLaidOut net bytes = IsDocumentText false (migrated net) bytes
