use Rattle.std.proofs.Common.{◌≡◌, map, take}
use Rattle.toml.specs.View.{view}
use Rattle.teg_reader.specs.NetOf.{entry_place}
use Rattle.teg_reader.proofs.entries.make_places.Given as goal

abbrev pub invariant-loop-entry : goal.invariant-loop-entry
invariant-loop-entry l = l.places.items ≡ map (entry_place (map view l.transitions)) (map view (take l.entry-index l.entries))
