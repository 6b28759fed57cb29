use Rattle.std.proofs.Common.{pos, List, arith, subst, sym}
use Rattle.std.specs.Prelude.{take}
use Rattle.dioid.specs.declared.dates.Date.{Date}
use Rattle.series_laws.specs.Periodic.{Rising}
use Rattle.series_laws.specs.SeriesForms.{HasValues, form_with, value_at}
use Rattle.series_ops.specs.Gains.{gain_of}
use Rattle.steady_series.proofs.CutLefts.{cut_answers, cut_rises}
use Rattle.steady_series.proofs.cuts.left_by_first.Goals as goal

pub from_list-requires-clause-rising : goal.from_list-requires-clause-rising
from_list-requires-clause-rising c =
    let h = c.in-Some.ensures in
    let some = h.before in
    let early = h.early in
    subst (λ (l : List Date). Rising (value_at (form_with (take c.in-Some.count l) 1 (pos 0)))) (sym c.values-values.ensures.value)
    (cut_rises c.args.first.now.series c.in-Some.count h.first.canonical.form.rising (omega (arith, some)) (omega (arith, early)))

pub returns-in-Ok-left : goal.returns-in-Ok-left
returns-in-Ok-left c =
    let w = c.in-Ok.series in
    cut_answers c.args.first.now c.args.second.now (gain_of w) c.in-Some.count c.in-Some.ensures c.in-Ok.ensures.0
    (subst (λ (l : List Date). HasValues w (value_at (form_with (take c.in-Some.count l) 1 (pos 0)))) c.values-values.ensures.value c.in-Ok.ensures.1)
    c.in-Ok-left.residual c.in-Ok-left.ensures.answer
