use Rattle.std.proofs.Common.{◌∙◌, ℕ, sym, ap}
use Rattle.series_laws.specs.SeriesForms.{value_at}
use Rattle.series_form.proofs.Finished.{model_answer}
use Rattle.series_laws.specs.StarOf.{above_zero, star_at, IsStarOf}
use Rattle.series_laws.proofs.StarParts.{star_only}
use Rattle.series_laws.specs.ProductNeeds.{star_need, star_carried, form_star}
use Rattle.series_laws.proofs.StarForms.{form_star_is, form_star_values}
use Rattle.series_ops.proofs.StarValues.{not_above, low_answer, high_answer}
use Rattle.series_ops.proofs.stars.star.Goals as goal

pub star_with-requires : goal.star_with-requires
star_with-requires c = record {
  low = not_above (value_at c.args.first.now 0) (ap above_zero (sym c.at.ensures.value) ∙ sym c.is_above_zero.ensures ∙ c.if-is_above_zero.false);
  one = c.in-Ok.ensures.1;
}

pub returns-in-Ok-clause-answer : goal.returns-in-Ok-clause-answer
returns-in-Ok-clause-answer c = low_answer c.args.first.now c.star_with.result (ap above_zero (sym c.at.ensures.value) ∙ sym c.is_above_zero.ensures ∙ c.if-is_above_zero.false) c.star_with.ensures

pub returns-in-Ok-clause-model : goal.returns-in-Ok-clause-model
returns-in-Ok-clause-model c = model_answer (star_at (value_at c.args.first.now)) (form_star c.args.first.now)
    (λ r. (k : ℕ) → IsStarOf (value_at c.args.first.now) k (value_at r k)) (star_need c.args.first.now) (star_carried c.args.first.now) c.star_with.result
    (form_star_is c.args.first.now c.at.ensures.series.canonical.form)
    (form_star_values c.args.first.now c.at.ensures.series.canonical.form) (λ g h k. star_only (value_at c.args.first.now) k (value_at g k) (h k))
    (low_answer c.args.first.now c.star_with.result (ap above_zero (sym c.at.ensures.value) ∙ sym c.is_above_zero.ensures ∙ c.if-is_above_zero.false) c.star_with.ensures)

pub returns-then-is_above_zero-clause-answer : goal.returns-then-is_above_zero-clause-answer
returns-then-is_above_zero-clause-answer c = high_answer c.args.first.now c.constant.result
    (ap above_zero (sym c.at.ensures.value) ∙ sym c.is_above_zero.ensures ∙ c.if-is_above_zero.true) c.constant.ensures

pub returns-then-is_above_zero-clause-model : goal.returns-then-is_above_zero-clause-model
returns-then-is_above_zero-clause-model c = model_answer (star_at (value_at c.args.first.now)) (form_star c.args.first.now)
    (λ r. (k : ℕ) → IsStarOf (value_at c.args.first.now) k (value_at r k)) (star_need c.args.first.now) (star_carried c.args.first.now) c.constant.result
    (form_star_is c.args.first.now c.at.ensures.series.canonical.form)
    (form_star_values c.args.first.now c.at.ensures.series.canonical.form) (λ g h k. star_only (value_at c.args.first.now) k (value_at g k) (h k))
    (high_answer c.args.first.now c.constant.result (ap above_zero (sym c.at.ensures.value) ∙ sym c.is_above_zero.ensures ∙ c.if-is_above_zero.true) c.constant.ensures)
