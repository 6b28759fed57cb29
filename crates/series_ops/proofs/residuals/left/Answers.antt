use Rattle.std.proofs.Common.{◌≤◌, ℕ, subst}
use Rattle.series_laws.specs.declared.plans.NeedPlan.{NeedPlan}
use Rattle.series_laws.specs.SeriesForms.{value_at}
use Rattle.series_laws.specs.Needs.{need_of}
use Rattle.series_form.proofs.Finished.{tabled_begins, planned_answer, planned_form}
use Rattle.series_laws.specs.Residual.{IsLeftAt}
use Rattle.series_laws.specs.ProductNeeds.{form_left}
use Rattle.series_laws.proofs.Lefts.{form_left_is, form_left_values}
use Rattle.series_ops.proofs.LeftValues.{left_tabled, has_residuals}
use Rattle.series_ops.proofs.residuals.left.Goals as goal

pub left_values-requires-clause-short : goal.left_values-requires-clause-short
left_values-requires-clause-short c = subst (λ (z : NeedPlan). need_of z ≤ 20000) c.plan_of_left-plan.ensures.value c.if-need-gt20000.false

pub ended-requires-clause-beginning : goal.ended-requires-clause-beginning
ended-requires-clause-beginning c = tabled_begins _ _ _ _
    (left_tabled c.args.first.now c.args.second.now _ _ c.plan_of_left-plan.ensures.left
    c.plan_of_left-plan.ensures.right c.plan_of_left-plan.ensures.value c.if-need-gt20000.false c.in-Ok.ensures) c.if-need-gt20000.false

pub returns-in-Ok-clause-answer : goal.returns-in-Ok-clause-answer
returns-in-Ok-clause-answer c = planned_answer _ _ _ _ _
    (left_tabled c.args.first.now c.args.second.now _ _ c.plan_of_left-plan.ensures.left c.plan_of_left-plan.ensures.right c.plan_of_left-plan.ensures.value c.if-need-gt20000.false c.in-Ok.ensures)
    c.plan_of_left-plan.ensures.value c.if-need-gt20000.false (λ r. (k : ℕ) → IsLeftAt (value_at c.args.first.now) (value_at c.args.second.now) k (value_at r k)) c.ended.result
    (λ f h. has_residuals c.args.first.now c.args.second.now f c.plan_of_left-plan.ensures.left.canonical.form c.plan_of_left-plan.ensures.right.canonical.form h) c.ended.ensures

pub returns-in-Ok-clause-model : goal.returns-in-Ok-clause-model
returns-in-Ok-clause-model c = planned_form _ _ _ _ _
    (left_tabled c.args.first.now c.args.second.now _ _ c.plan_of_left-plan.ensures.left c.plan_of_left-plan.ensures.right c.plan_of_left-plan.ensures.value c.if-need-gt20000.false c.in-Ok.ensures)
    c.plan_of_left-plan.ensures.value c.if-need-gt20000.false (form_left c.args.first.now c.args.second.now) c.ended.result
    (form_left_is c.args.first.now c.args.second.now c.plan_of_left-plan.ensures.left.canonical.form c.plan_of_left-plan.ensures.right.canonical.form)
    (form_left_values c.args.first.now c.args.second.now c.plan_of_left-plan.ensures.left.canonical.form c.plan_of_left-plan.ensures.right.canonical.form) c.ended.ensures
