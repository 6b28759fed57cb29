use Rattle.std.proofs.Common.{◌∙◌}
use Rattle.series_form.proofs.Finished.{table_push}
use Rattle.series_ops.specs.ListFunctions.{value_listed}
use Rattle.series_ops.proofs.cells.dates_of.Goals as goal

pub loop-place-preserved : goal.loop-place-preserved
loop-place-preserved c = c.in_ok-push.ensures.items ∙ table_push (value_listed c.args.cells.now) c.loop-place.place c.loop-place.dates.items _ c.loop-place.invariant c.date.ensures
