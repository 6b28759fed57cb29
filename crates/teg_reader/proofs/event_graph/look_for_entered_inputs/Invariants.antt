use Rattle.std.proofs.Common.{◌≡◌, map, drop}
use Rattle.toml.specs.View.{view}
use Rattle.teg_reader.specs.PassWalks.{first_of_entries}
use Rattle.teg_reader.specs.EventGraphs.{input_has_upstream}
use Rattle.teg_reader.proofs.event_graph.look_for_entered_inputs.Given as goal

abbrev pub invariant-loop-place : goal.invariant-loop-place
invariant-loop-place l =
    first_of_entries (input_has_upstream (map view l.transitions)) (map view (drop l.place-index l.places)) ≡ first_of_entries (input_has_upstream (map view l.transitions)) (map view l.places)
