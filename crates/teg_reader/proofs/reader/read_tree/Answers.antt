use Rattle.toml.specs.View.{view}
use Rattle.teg_reader.proofs.ClearLemmas.{good_entries, distinct}
use Rattle.teg_reader.proofs.reader.read_tree.Goals as goal

pub number_names-requires : goal.number_names-requires
number_names-requires c = rw c.list_at.ensures (distinct (view c.args.top.now) (good_entries (view c.args.top.now) c.in_ok-look_at_entries.ensures)).transitions
