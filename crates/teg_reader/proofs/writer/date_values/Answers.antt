use Rattle.std.proofs.Common.{get_or}
use Rattle.std.proofs.lemmas.List.{get_or_default}
use Rattle.teg_reader.specs.Migrated.{number_data}
use Rattle.teg_reader.proofs.TreeLemmas.{pushed_value}
use Rattle.teg_reader.proofs.writer.date_values.Goals as goal

pub loop-date-preserved : goal.loop-date-preserved
loop-date-preserved c =
    let dates = c.args.dates.now in
    let i = c.loop-date.date-index in
    pushed_value number_data dates i (get_or dates i 0) _ _ _ c.loop-date-test.true
    (get_or_default dates i 0 (get_or dates i 0) c.loop-date-test.true) c.loop-date.invariant c.number_value.ensures c.in_ok-push.ensures.items
