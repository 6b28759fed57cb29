use Rattle.teg_reader.specs.BadNames.{has_good_name}
use Rattle.teg_reader.proofs.TreeLemmas.{entry_passes}
use Rattle.teg_reader.proofs.ready_dates.look_for_bad_ready.Goals as goal

pub look_at_ready-requires : goal.look_at_ready-requires
look_at_ready-requires c = entry_passes has_good_name c.args.places.now c.loop-place.place-index c.place-item.result c.loop-place-test.true c.place-item.is c.requires
