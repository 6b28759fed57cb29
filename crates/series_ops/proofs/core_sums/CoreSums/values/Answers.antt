use Rattle.std.proofs.Common.{◌∙◌}
use Rattle.series_laws.specs.SeriesForms.{value_at}
use Rattle.series_laws.specs.Product.{product_at}
use Rattle.series_form.proofs.Finished.{table_push}
use Rattle.series_ops.specs.ListFunctions.{value_listed}
use Rattle.series_ops.proofs.core_sums.CoreSums.values.Goals as goal

pub loop-shift-preserved : goal.loop-shift-preserved
loop-shift-preserved c = c.in_ok-push.ensures.items
    ∙ table_push (product_at (value_at c.args.self.now.form) (value_listed c.args.self.now.list)) c.loop-shift.shift c.loop-shift.values.items _ c.loop-shift.invariant c.at.ensures.value
