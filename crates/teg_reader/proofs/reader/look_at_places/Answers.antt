use Rattle.toml.specs.View.{view}
use Rattle.teg_reader.proofs.ClearLemmas.{good_entries, places_named}
use Rattle.teg_reader.proofs.reader.look_at_places.Goals as goal

pub look_for_bad_ready-requires : goal.look_for_bad_ready-requires
look_for_bad_ready-requires c = rw c.list_at-places.ensures (places_named (view c.args.top.now) (good_entries (view c.args.top.now) c.requires.good))

pub look_for_slow_places-requires-clause-good : goal.look_for_slow_places-requires-clause-good
look_for_slow_places-requires-clause-good c = rw c.list_at-places.ensures (places_named (view c.args.top.now) (good_entries (view c.args.top.now) c.requires.good))
