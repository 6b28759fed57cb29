use Rattle.std.proofs.Common.{◌∙◌, refl}
use Rattle.series_form.proofs.Finished.{table_push}
use Rattle.series_ops.proofs.tables.repeated.Goals as goal

pub loop-place-preserved : goal.loop-place-preserved
loop-place-preserved c = c.in_ok-push.ensures.items ∙ table_push (λ _. c.args.date) c.loop-place._place c.loop-place.values.items c.args.date c.loop-place.invariant refl
