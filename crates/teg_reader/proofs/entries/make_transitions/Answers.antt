use Rattle.teg_reader.specs.BadNames.{has_good_name}
use Rattle.teg_reader.proofs.TreeLemmas.{pushed_of, entry_passes}
use Rattle.teg_reader.specs.NetOf.{entry_transition}
use Rattle.teg_reader.proofs.entries.make_transitions.Goals as goal

pub make_transition-requires : goal.make_transition-requires
make_transition-requires c = entry_passes has_good_name c.args.entries.now c.loop-entry.entry-index c.entry-item.result c.loop-entry-test.true c.entry-item.is c.requires

pub loop-entry-preserved : goal.loop-entry-preserved
loop-entry-preserved c = pushed_of entry_transition c.args.entries.now c.loop-entry.entry-index c.entry-item.result _ _ _
    c.loop-entry-test.true c.entry-item.is c.loop-entry.invariant c.in_ok-make_transition.ensures c.in_ok-push.ensures.items
