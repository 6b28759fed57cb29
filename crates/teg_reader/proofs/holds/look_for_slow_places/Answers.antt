use Rattle.teg_reader.specs.BadNames.{has_good_name}
use Rattle.teg_reader.proofs.TreeLemmas.{entry_passes}
use Rattle.teg_reader.proofs.holds.look_for_slow_places.Goals as goal

pub look_at_hold-requires-clause-name : goal.look_at_hold-requires-clause-name
look_at_hold-requires-clause-name c = entry_passes has_good_name c.args.places.now c.loop-place.place-index c.place-item.result c.loop-place-test.true c.place-item.is c.requires.good
