use Rattle.series_laws.specs.SeriesForms.{value_at, HasValues}
use Rattle.series_form.proofs.Finished.{tabled_begins, planned_answer, planned_form}
use Rattle.series_laws.specs.Product.{product_at}
use Rattle.series_laws.specs.ProductNeeds.{form_product}
use Rattle.series_laws.proofs.Products.{form_product_is, form_product_values}
use Rattle.series_ops.proofs.ProductPlans.{product_tabled}
use Rattle.series_ops.proofs.products.product.Goals as goal

pub ended-requires-clause-beginning : goal.ended-requires-clause-beginning
ended-requires-clause-beginning c = tabled_begins _ _ _ _
    (product_tabled c.args.first.now c.args.second.now _ _ c.plan_of_product-plan.ensures.left
    c.plan_of_product-plan.ensures.right c.plan_of_product-plan.ensures.value c.if-need-gt20000.false c.in-Ok.ensures) c.if-need-gt20000.false

pub returns-in-Ok-clause-answer : goal.returns-in-Ok-clause-answer
returns-in-Ok-clause-answer c = planned_answer _ _ _ _ _
    (product_tabled c.args.first.now c.args.second.now _ _ c.plan_of_product-plan.ensures.left
    c.plan_of_product-plan.ensures.right c.plan_of_product-plan.ensures.value c.if-need-gt20000.false c.in-Ok.ensures)
    c.plan_of_product-plan.ensures.value c.if-need-gt20000.false (λ r. HasValues r (product_at (value_at c.args.first.now) (value_at c.args.second.now))) c.ended.result (λ f h. h) c.ended.ensures

pub returns-in-Ok-clause-model : goal.returns-in-Ok-clause-model
returns-in-Ok-clause-model c = planned_form _ _ _ _ _
    (product_tabled c.args.first.now c.args.second.now _ _ c.plan_of_product-plan.ensures.left
    c.plan_of_product-plan.ensures.right c.plan_of_product-plan.ensures.value c.if-need-gt20000.false c.in-Ok.ensures)
    c.plan_of_product-plan.ensures.value c.if-need-gt20000.false (form_product c.args.first.now c.args.second.now) c.ended.result
    (form_product_is c.args.first.now c.args.second.now c.plan_of_product-plan.ensures.left.canonical.form c.plan_of_product-plan.ensures.right.canonical.form)
    (form_product_values c.args.first.now c.args.second.now c.plan_of_product-plan.ensures.left.canonical.form c.plan_of_product-plan.ensures.right.canonical.form) c.ended.ensures
