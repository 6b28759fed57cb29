use Rattle.std.proofs.Common.{◌≡◌, map, take}
use Rattle.toml.specs.View.{view}
use Rattle.teg_reader.specs.Migrated.{place_entry}
use Rattle.teg_reader.proofs.writer.place_values.Given as goal

abbrev pub invariant-loop-place : goal.invariant-loop-place
invariant-loop-place l = map view l.values.items ≡ map (place_entry l.net.transitions) (take l.place-index l.net.places)
