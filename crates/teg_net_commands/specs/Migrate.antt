-- What is said of a live net as a file of the second version.
use Rattle.std.specs.Prelude.{ℕ, ◌≡◌, List, Some, Ok}
use Rattle.teg_net.specs.Nets.{NetLists}
use Rattle.teg_reader.specs.Documents.{tree_of_bytes, document}
use Rattle.teg_reader.specs.Layouts.{IsLaidOut}
use Rattle.teg_reader.specs.Migrated.{migrated}
use Rattle.teg_outcome.specs.declared.outcome.Verdict.{Verdict}
use Rattle.teg_outcome.specs.declared.outcome.Verdict.TheVariants.{Done as VerdictDone}

-- bytes that write the table of the net in the layout of `toml`, that are read as exactly that table, and that say the net
abbrev pub IsWrittenNet : NetLists → List ℕ → Type 0
IsWrittenNet net text = IsLaidOut net text × (tree_of_bytes text ≡ Some (migrated net)) × (document text ≡ Ok net)

-- a live net is said as a file of the second version
abbrev pub SaysMigrate : NetLists → Verdict → List ℕ → Type 0
SaysMigrate net verdict text = (verdict ≡ VerdictDone) × IsWrittenNet net text
