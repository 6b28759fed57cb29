use Rattle.std.proofs.Common.{◌∙◌}
use Rattle.series_laws.specs.SeriesForms.{value_at}
use Rattle.series_laws.specs.Pointwise.{least_at}
use Rattle.series_form.proofs.Finished.{table_push}
use Rattle.series_form.proofs.pointwise.least_values.Goals as goal

pub loop-shift-preserved : goal.loop-shift-preserved
loop-shift-preserved c = c.in_ok-push.ensures.items
    ∙ table_push (least_at (value_at c.args.first.now) (value_at c.args.second.now)) c.loop-shift.shift c.loop-shift.values.items _ c.loop-shift.invariant c.earlier_at.ensures
