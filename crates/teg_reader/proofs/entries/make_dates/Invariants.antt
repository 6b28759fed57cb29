use Rattle.std.proofs.Common.{◌≡◌, map, take}
use Rattle.toml.specs.View.{view}
use Rattle.teg_reader.specs.DocumentTrees.{as_number}
use Rattle.teg_reader.proofs.entries.make_dates.Given as goal

abbrev pub invariant-loop-value : goal.invariant-loop-value
invariant-loop-value l = l.dates.items ≡ map as_number (map view (take l.value-index l.values))
