use Rattle.std.proofs.Common.{◌≡◌, ◌+◌, ◌-◌, map, drop}
use Rattle.toml.specs.View.{view}
use Rattle.teg_reader.specs.DocumentTrees.{as_number}
use Rattle.teg_reader.specs.InputLists.{first_fall}
use Rattle.teg_reader.proofs.input_lists.first_fall.Given as goal

abbrev pub invariant-loop-index : goal.invariant-loop-index
invariant-loop-index l =
    first_fall (l.index + 1) (map as_number (map view (drop (l.index - 1) l.dates))) ≡ first_fall 2 (map as_number (map view l.dates))
