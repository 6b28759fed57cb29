use Rattle.std.proofs.Common.{◌≡◌, map, take}
use Rattle.toml.specs.View.{view}
use Rattle.teg_reader.specs.NetOf.{entry_transition}
use Rattle.teg_reader.proofs.entries.make_transitions.Given as goal

abbrev pub invariant-loop-entry : goal.invariant-loop-entry
invariant-loop-entry l = l.transitions.items ≡ map entry_transition (map view (take l.entry-index l.entries))
