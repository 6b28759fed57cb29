use Rattle.teg_reader.specs.InputLists.{has_good_owner}
use Rattle.teg_reader.proofs.TreeLemmas.{entry_passes}
use Rattle.teg_reader.proofs.input_lists.look_for_bad_inputs.Goals as goal

pub look_at_input-requires-clause-owner : goal.look_at_input-requires-clause-owner
look_at_input-requires-clause-owner c = entry_passes has_good_owner c.args.inputs.now c.loop-entry.entry-index c.entry-item.result c.loop-entry-test.true c.entry-item.is c.requires.owners
