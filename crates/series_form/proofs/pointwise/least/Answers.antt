use Rattle.series_laws.specs.SeriesForms.{value_at, HasValues}
use Rattle.series_laws.specs.Pointwise.{least_at}
use Rattle.series_laws.specs.Needs.{form_least}
use Rattle.series_laws.proofs.Sums.{form_least_is, form_least_values}
use Rattle.series_form.proofs.Finished.{tabled_begins, planned_answer, planned_form}
use Rattle.series_form.proofs.PointwiseTables.{least_tabled}
use Rattle.series_form.proofs.pointwise.least.Goals as goal

pub shortest-requires : goal.shortest-requires
shortest-requires c = tabled_begins _ _ _ _
    (least_tabled c.args.first.now c.args.second.now _ _ _ c.plan_of_least-plan.ensures.left c.plan_of_least-plan.ensures.right c.plan_of_least-plan.ensures.value c.if-need-gt20000.false
    c.in-Ok.ensures c.earlier_at.ensures) c.if-need-gt20000.false

pub returns-in-Ok-clause-answer : goal.returns-in-Ok-clause-answer
returns-in-Ok-clause-answer c = planned_answer _ _ _ _ _
    (least_tabled c.args.first.now c.args.second.now _ _ _ c.plan_of_least-plan.ensures.left c.plan_of_least-plan.ensures.right c.plan_of_least-plan.ensures.value c.if-need-gt20000.false
    c.in-Ok.ensures c.earlier_at.ensures)
    c.plan_of_least-plan.ensures.value c.if-need-gt20000.false (λ r. HasValues r (least_at (value_at c.args.first.now) (value_at c.args.second.now))) c.shortest.result (λ f h. h) c.shortest.ensures

pub returns-in-Ok-clause-model : goal.returns-in-Ok-clause-model
returns-in-Ok-clause-model c = planned_form _ _ _ _ _
    (least_tabled c.args.first.now c.args.second.now _ _ _ c.plan_of_least-plan.ensures.left c.plan_of_least-plan.ensures.right c.plan_of_least-plan.ensures.value c.if-need-gt20000.false
    c.in-Ok.ensures c.earlier_at.ensures)
    c.plan_of_least-plan.ensures.value c.if-need-gt20000.false (form_least c.args.first.now c.args.second.now) c.shortest.result
    (form_least_is c.args.first.now c.args.second.now c.plan_of_least-plan.ensures.left.canonical.form c.plan_of_least-plan.ensures.right.canonical.form)
    (form_least_values c.args.first.now c.args.second.now c.plan_of_least-plan.ensures.left.canonical.form c.plan_of_least-plan.ensures.right.canonical.form) c.shortest.ensures
