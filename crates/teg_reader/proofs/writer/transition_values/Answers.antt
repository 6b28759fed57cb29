use Rattle.teg_reader.specs.Migrated.{transition_entry}
use Rattle.teg_reader.proofs.TreeLemmas.{pushed_value}
use Rattle.teg_reader.proofs.writer.transition_values.Goals as goal

pub loop-transition-preserved : goal.loop-transition-preserved
loop-transition-preserved c = pushed_value transition_entry c.args.transitions.now c.loop-transition.transition-index
    c.transition-item.result _ _ _ c.loop-transition-test.true c.transition-item.is c.loop-transition.invariant
    c.in_ok-transition_value.ensures c.in_ok-push.ensures.items
