use Rattle.std.proofs.Common.{◌∙◌}
use Rattle.series_laws.specs.SeriesForms.{value_at}
use Rattle.series_form.proofs.Finished.{table_push}
use Rattle.series_ops.proofs.tables.first_values.Goals as goal

pub loop-shift-preserved : goal.loop-shift-preserved
loop-shift-preserved c = c.in_ok-push.ensures.items ∙ table_push (value_at c.args.series.now) c.loop-shift.shift c.loop-shift.values.items _ c.loop-shift.invariant c.at.ensures.value
