use Rattle.std.proofs.Common.{◌≡◌, ◌≤◌, ◌<◌, ◌∙◌, ◌+◌, ℕ, ap, sym, subst, arith}
use Rattle.series_laws.specs.SeriesForms.{Form, value_at, HasValues}
use Rattle.series_form.specs.SeriesAnswers.{AnswersOf}
use Rattle.series_laws.specs.Needs.{need_of, sum_plan}
use Rattle.series_form.proofs.Finished.{tabled_begins, planned_answer}
use Rattle.series_laws.specs.StarOf.{parts_star}
use Rattle.series_laws.specs.ProductNeeds.{one_shift, star_plan}
use Rattle.series_ops.proofs.StarValues.{one_is, long_need, short_carried, star_tabled}
use Rattle.series_ops.proofs.stars.star_with.Goals as goal

pub returns-then-need-gt20000 : goal.returns-then-need-gt20000
returns-then-need-gt20000 c =
    let one : c.args.one.now ≡ one_shift = one_is c.args.one.now c.plan_of_sum-plan.ensures.right.canonical c.requires.one in
    let need : c.plan_of_sum-plan.result.from + c.plan_of_sum-plan.result.turn ≡ need_of (sum_plan c.args.first.now one_shift) =
    ap need_of c.plan_of_sum-plan.ensures.value ∙ ap (λ (z : Form). need_of (sum_plan c.args.first.now z)) one in
    long_need c.args.first.now (c.plan_of_sum-plan.result.from + c.plan_of_sum-plan.result.turn) need c.if-need-gt20000.true

pub plan_with-plan-requires : goal.plan_with-plan-requires
plan_with-plan-requires c = record {
  left = c.plan_of_sum-plan.ensures.left;
  right = c.plan_of_sum-plan.ensures.right;
  one = c.requires.one;
  plan = c.plan_of_sum-plan.ensures.value;
  short = c.if-need-gt20000.false;
  values = c.in-Ok.ensures;
}

pub returns-then-need-gt20000-2 : goal.returns-then-need-gt20000-2
returns-then-need-gt20000-2 c =
    let one : c.args.one.now ≡ one_shift = one_is c.args.one.now c.plan_of_sum-plan.ensures.right.canonical c.requires.one in
    let need : c.plan_of_sum-plan.result.from + c.plan_of_sum-plan.result.turn ≡ need_of (sum_plan c.args.first.now one_shift) =
    ap need_of c.plan_of_sum-plan.ensures.value ∙ ap (λ (z : Form). need_of (sum_plan c.args.first.now z)) one in
    let fits = c.if-need-gt20000.false in
    let whole : c.plan_with-plan.result.from + c.plan_with-plan.result.turn ≡ need_of (star_plan c.args.first.now) = ap need_of c.plan_with-plan.ensures.value in
    let short : need_of (sum_plan c.args.first.now one_shift) ≤ 20000 = omega arith in
    (subst (λ (z : ℕ). 20000 < z) whole c.if-need-gt20000-2.true, whole ∙ sym (short_carried c.args.first.now short))

pub ended-requires-clause-beginning : goal.ended-requires-clause-beginning
ended-requires-clause-beginning c = tabled_begins _ _ _ _
    (star_tabled c.args.first.now _ _ c.plan_of_sum-plan.ensures.left c.requires.low c.plan_with-plan.ensures.value c.if-need-gt20000-2.false c.in-Ok-star_list.ensures)
    c.if-need-gt20000-2.false

pub returns-in-Ok-star_list : goal.returns-in-Ok-star_list
returns-in-Ok-star_list c =
    let one : c.args.one.now ≡ one_shift = one_is c.args.one.now c.plan_of_sum-plan.ensures.right.canonical c.requires.one in
    let need : c.plan_of_sum-plan.result.from + c.plan_of_sum-plan.result.turn ≡ need_of (sum_plan c.args.first.now one_shift) =
    ap need_of c.plan_of_sum-plan.ensures.value ∙ ap (λ (z : Form). need_of (sum_plan c.args.first.now z)) one in
    let fits = c.if-need-gt20000.false in
    let short : need_of (sum_plan c.args.first.now one_shift) ≤ 20000 = omega arith in
    subst (λ (z : ℕ). AnswersOf (λ r. HasValues r (parts_star (value_at c.args.first.now))) (need_of (star_plan c.args.first.now)) z c.ended.result) (sym (short_carried c.args.first.now short))
    (planned_answer _ _ _ _ _
    (star_tabled c.args.first.now _ _ c.plan_of_sum-plan.ensures.left c.requires.low c.plan_with-plan.ensures.value c.if-need-gt20000-2.false c.in-Ok-star_list.ensures)
    c.plan_with-plan.ensures.value c.if-need-gt20000-2.false (λ r. HasValues r (parts_star (value_at c.args.first.now))) c.ended.result (λ f h. h) c.ended.ensures)
