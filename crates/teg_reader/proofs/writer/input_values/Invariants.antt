use Rattle.std.proofs.Common.{◌≡◌, map, take}
use Rattle.toml.specs.View.{view}
use Rattle.teg_reader.specs.Migrated.{input_entry}
use Rattle.teg_reader.proofs.writer.input_values.Given as goal

abbrev pub invariant-loop-input : goal.invariant-loop-input
invariant-loop-input l = map view l.values.items ≡ map (input_entry l.net.transitions) (take l.input-index l.net.inputs)
