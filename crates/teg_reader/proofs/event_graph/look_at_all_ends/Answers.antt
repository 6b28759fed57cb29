use Rattle.teg_reader.specs.BadNames.{has_good_name}
use Rattle.teg_reader.proofs.TreeLemmas.{entry_passes}
use Rattle.teg_reader.proofs.event_graph.look_at_all_ends.Goals as goal

pub look_at_ends-requires : goal.look_at_ends-requires
look_at_ends-requires c = entry_passes has_good_name c.args.places.now c.loop-place.place-index c.place-item.result c.loop-place-test.true c.place-item.is c.requires
