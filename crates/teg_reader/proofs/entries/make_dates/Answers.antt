use Rattle.teg_reader.specs.DocumentTrees.{as_number}
use Rattle.teg_reader.proofs.TreeLemmas.{pushed_of}
use Rattle.teg_reader.proofs.entries.make_dates.Goals as goal

pub loop-value-preserved : goal.loop-value-preserved
loop-value-preserved c = pushed_of as_number c.args.values.now c.loop-value.value-index c.value-item.result _ _ _ c.loop-value-test.true
    c.value-item.is c.loop-value.invariant c.as_number.ensures.value c.in_ok-push.ensures.items
