use Rattle.std.proofs.Common.{◌≡◌, map, take}
use Rattle.toml.specs.View.{view}
use Rattle.teg_reader.specs.Migrated.{transition_entry}
use Rattle.teg_reader.proofs.writer.transition_values.Given as goal

abbrev pub invariant-loop-transition : goal.invariant-loop-transition
invariant-loop-transition l = map view l.values.items ≡ map transition_entry (take l.transition-index l.transitions)
