use Rattle.std.proofs.Common.{◌≡◌, map, drop}
use Rattle.std.specs.Map.Iter.{deref}
use Rattle.toml.specs.View.{view}
use Rattle.teg_reader.specs.DocumentTrees.{text_or_empty}
use Rattle.teg_reader.specs.UnknownTransitions.{unknown_among}
use Rattle.teg_reader.proofs.unknown_transitions.unknown_in.Given as goal

abbrev pub invariant-loop-value : goal.invariant-loop-value
invariant-loop-value l =
    unknown_among (map deref l.names.keys) (map text_or_empty (map view (drop l.value-index l.values))) ≡ unknown_among (map deref l.names.keys) (map text_or_empty (map view l.values))
