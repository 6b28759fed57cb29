use Rattle.std.proofs.Common.{◌≡◌, map, take}
use Rattle.std.specs.Map.Iter.{deref}
use Rattle.toml.specs.View.{view}
use Rattle.teg_reader.specs.NetOf.{input_of}
use Rattle.teg_reader.proofs.entries.make_inputs.Given as goal

abbrev pub invariant-loop-entry : goal.invariant-loop-entry
invariant-loop-entry l = l.inputs.items ≡ map (input_of (map deref l.names.keys)) (map view (take l.entry-index l.entries))
