use Rattle.std.proofs.Common.{◌≡◌, ◌∙◌, ◌+◌, ℕ, List, ap, sym, subst}
use Rattle.dioid.specs.declared.dates.Date.{Date}
use Rattle.series_laws.specs.Pointwise.{sum_at}
use Rattle.series_laws.specs.SeriesForms.{Form, value_at, HasValues}
use Rattle.series_form.specs.SeriesAnswers.{IsBeginning, form_before}
use Rattle.series_laws.specs.Needs.{need_of, sum_plan, form_sum}
use Rattle.series_laws.proofs.Sums.{form_sum_is, form_sum_values}
use Rattle.series_form.proofs.Finished.{tabled_begins, tabled_values}
use Rattle.series_form.proofs.PointwiseTables.{sum_tabled}
use Rattle.series_laws.specs.ProductNeeds.{one_shift, at_least, own_plan}
use Rattle.series_laws.proofs.StarForms.{one_shift_is}
use Rattle.series_ops.proofs.StarValues.{one_is, part_form, sum_ready}
use Rattle.series_ops.proofs.stars.plan_with.Goals as goal

pub canonical_part-shape-requires : goal.canonical_part-shape-requires
canonical_part-shape-requires c = subst (λ (z : List Date). IsBeginning z c.args.plan.turn c.later_at-next.result) (sym c.as_slice.ensures.value)
    (tabled_begins (sum_at (value_at c.args.first.now) (value_at c.args.one.now)) c.args.plan c.args.values.items c.later_at-next.result
    (sum_tabled c.args.first.now c.args.one.now c.args.plan c.args.values.items c.later_at-next.result c.requires.left c.requires.right
    c.requires.plan c.requires.short c.requires.values c.later_at-next.ensures)
    c.requires.short)

pub invariant_of-parts : goal.invariant_of-parts
invariant_of-parts c =
    let r = sum_ready c.args.first.now c.args.one.now c.args.plan c.as_slice.result.now c.args.values.items c.as_slice-2.result.now c.later_at-next.result c.canonical_part-shape.result
    c.requires.left c.requires.right (sum_tabled c.args.first.now c.args.one.now c.args.plan c.args.values.items c.later_at-next.result c.requires.left c.requires.right
    c.requires.plan c.requires.short c.requires.values c.later_at-next.ensures)
    c.requires.short c.as_slice.ensures.value c.canonical_part-shape.ensures (c.as_slice-2.ensures.value ∙ c.truncate.ensures.items) in
    record { positive = r.0; short = r.1; fits = r.2; small_step = r.3; up = r.4 }

pub returns-clause-value : goal.returns-clause-value
returns-clause-value c =
    let one : c.args.one.now ≡ one_shift = one_is c.args.one.now c.requires.right.canonical c.requires.one in
    let need : c.args.plan.from + c.args.plan.turn ≡ need_of (sum_plan c.args.first.now one_shift) = ap need_of c.requires.plan ∙ ap (λ (z : Form). need_of (sum_plan c.args.first.now z)) one in
    let has : HasValues (form_sum c.args.first.now one_shift) (value_at (form_before c.args.values.items c.args.plan.turn c.later_at-next.result)) =
    λ k. form_sum_values c.args.first.now one_shift c.requires.left.canonical.form one_shift_is k ∙ ap (λ (z : Form). sum_at (value_at c.args.first.now) (value_at z) k) (sym one)
    ∙ sym (tabled_values (sum_at (value_at c.args.first.now) (value_at c.args.one.now)) c.args.plan c.args.values.items c.later_at-next.result
    (sum_tabled c.args.first.now c.args.one.now c.args.plan c.args.values.items c.later_at-next.result c.requires.left c.requires.right
    c.requires.plan c.requires.short c.requires.values c.later_at-next.ensures) k) in
    c.raised.ensures ∙ ap (at_least (c.args.plan.from + c.args.plan.turn)) (c.plan.ensures.value
    ∙ ap own_plan (part_form c.as_slice.result.now c.args.values.items c.as_slice-2.result.now c.args.plan.turn c.later_at-next.result c.canonical_part-shape.result
    c.as_slice.ensures.value c.canonical_part-shape.ensures (c.as_slice-2.ensures.value ∙ c.truncate.ensures.items)
    (form_sum c.args.first.now one_shift) (form_sum_is c.args.first.now one_shift c.requires.left.canonical.form one_shift_is) has))
    ∙ ap (λ (z : ℕ). at_least z (own_plan (form_sum c.args.first.now one_shift))) need
