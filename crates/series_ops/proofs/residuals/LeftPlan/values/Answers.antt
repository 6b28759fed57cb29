use Rattle.std.proofs.Common.{◌≡◌, ◌∙◌, ap, sym, arith, length}
use Rattle.series_laws.specs.SeriesForms.{table}
use Rattle.series_laws.proofs.FormValues.{table_length}
use Rattle.series_form.proofs.Finished.{table_push}
use Rattle.series_laws.specs.ProductNeeds.{left_over}
use Rattle.series_ops.proofs.residuals.LeftPlan.values.Goals as goal

pub next-next-requires : goal.next-next-requires
next-next-requires c =
    let f = left_over c.args.self.now.first c.args.self.now.second in
    let items : c.as_slice.result.now ≡ table f c.loop-shift._shift = c.as_slice.ensures.value ∙ c.loop-shift.invariant in
    let size : length c.as_slice.result.now ≡ c.loop-shift._shift = ap length items ∙ table_length f c.loop-shift._shift in
    let more = c.loop-shift-test.true in
    let count = c.requires in
    record { values = items ∙ ap (table f) (sym size); count = omega arith }

pub loop-shift-preserved : goal.loop-shift-preserved
loop-shift-preserved c =
    let f = left_over c.args.self.now.first c.args.self.now.second in
    let size : length c.as_slice.result.now ≡ c.loop-shift._shift = ap length (c.as_slice.ensures.value ∙ c.loop-shift.invariant) ∙ table_length f c.loop-shift._shift in
    c.in_ok-push.ensures.items ∙ table_push f c.loop-shift._shift c.loop-shift.values.items _ c.loop-shift.invariant (c.next-next.ensures ∙ ap f size)
