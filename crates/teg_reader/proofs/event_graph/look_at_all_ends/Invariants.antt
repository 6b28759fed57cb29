use Rattle.std.proofs.Common.{◌≡◌, map, drop}
use Rattle.toml.specs.View.{view}
use Rattle.teg_reader.specs.PassWalks.{first_of_entries}
use Rattle.teg_reader.specs.EventGraphs.{not_event_graph}
use Rattle.teg_reader.proofs.event_graph.look_at_all_ends.Given as goal

abbrev pub invariant-loop-place : goal.invariant-loop-place
invariant-loop-place l = first_of_entries not_event_graph (map view (drop l.place-index l.places)) ≡ first_of_entries not_event_graph (map view l.places)
