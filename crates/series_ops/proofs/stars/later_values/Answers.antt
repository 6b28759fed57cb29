use Rattle.std.proofs.Common.{◌≡◌, ◌∙◌, ◌+◌, suc, ap, sym, subst, arith, length}
use Rattle.dioid.specs.declared.dates.Date.{Date}
use Rattle.series_laws.specs.SeriesForms.{size_of, value_at, table}
use Rattle.series_form.specs.NumberBounds.{IsMagnitudeUpTo}
use Rattle.series_form.specs.SeriesLimits.{greatest_listed, greatest_value_ahead}
use Rattle.series_form.proofs.Finished.{table_push, up_to_more}
use Rattle.series_form.proofs.PointwiseTables.{listed_up_to}
use Rattle.series_ops.specs.ListFunctions.{later_part}
use Rattle.series_ops.proofs.stars.later_values.Goals as goal

pub push-requires : goal.push-requires
push-requires c =
    let more = c.loop-shift-test.true in
    let size : length c.values-shift-end.result.now ≡ size_of c.args.series.now = ap length c.values-shift-end.ensures.value in
    let short = c.values-shift-end.ensures.series.short in
    subst (λ (z : Date). IsMagnitudeUpTo greatest_listed z) (sym c.at.ensures.value)
    (up_to_more greatest_value_ahead greatest_listed (value_at c.args.series.now (c.loop-shift.shift + 1)) (omega arith)
    (listed_up_to c.args.series.now c.at.ensures.series (c.loop-shift.shift + 1) (omega arith)))

pub loop-shift-preserved : goal.loop-shift-preserved
loop-shift-preserved c =
    let here : c.loop-shift.shift + 1 ≡ suc c.loop-shift.shift = omega arith in
    c.in_ok-push.ensures ∙ table_push (later_part (value_at c.args.series.now)) c.loop-shift.shift c.loop-shift.values _
    c.loop-shift.invariant (c.at.ensures.value ∙ ap (value_at c.args.series.now) here)

pub returns : goal.returns
returns c =
    let size : length c.values-shift-end.result.now ≡ size_of c.args.series.now = ap length c.values-shift-end.ensures.value in
    let last : c.loop-shift.shift ≡ size_of c.args.series.now = omega arith in
    c.loop-shift.invariant ∙ ap (table (later_part (value_at c.args.series.now))) last
