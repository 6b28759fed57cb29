use Rattle.std.proofs.Common.{◌≡◌, ◌++◌, map}
use Rattle.std.specs.Map.Iter.{deref}
use Rattle.toml.specs.View.{view}
use Rattle.teg_reader.specs.DocumentTrees.{entry_names}
use Rattle.teg_reader.proofs.NumberLemmas.{names_from}
use Rattle.teg_reader.proofs.numbers.number_names.Given as goal

abbrev pub invariant-loop-entry : goal.invariant-loop-entry
invariant-loop-entry l = map deref l.names.keys ++ names_from l.entry-index l.entries ≡ entry_names (map view l.entries)
