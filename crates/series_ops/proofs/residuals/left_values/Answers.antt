use Rattle.std.proofs.Common.{◌≡◌, ◌∙◌, ℕ, sym, subst}
use Rattle.std.specs.Prelude.{IfOk}
use Rattle.dioid.specs.declared.dates.Date.{Date}
use Rattle.dioid.specs.declared.dates.Date.TheVariants.{Early}
use Rattle.series_laws.specs.SeriesForms.{table}
use Rattle.series_laws.specs.Needs.{tail_of}
use Rattle.series_laws.specs.ProductNeeds.{left_over}
use Rattle.series_ops.specs.LeftPlans.{DividedForms}
use Rattle.series_ops.proofs.LeftValues.{early_left, few_offsets, late_left, steep_left, gentle_left}
use Rattle.series_ops.proofs.residuals.left_values.Goals as goal

pub returns-in-Early-default : goal.returns-in-Early-default
returns-in-Early-default c = subst (λ (s : ℕ → Date). IfOk c.repeated.result (λ values. values.items ≡ table s c.args.count))
    (sym (early_left c.args.first.now c.args.second.now (sym c.tail.ensures.value ∙ c.in-Early-default.is-0)))
    c.repeated.ensures

pub returns-in_default-First : goal.returns-in_default-First
returns-in_default-First c =
    let late : tail_of c.args.first.now ≡ Early → ⊥ = λ h. c.in_default-First.not-Early-0 (c.tail.ensures.value ∙ h) in
    subst (λ (s : ℕ → Date). IfOk c.repeated-in_default-First.result (λ values. values.items ≡ table s c.args.count))
    (sym (late_left c.args.first.now c.args.second.now late ∙ steep_left c.args.first.now c.args.second.now (sym c.compare_slopes.ensures.value ∙ c.in_default-First.is-1)))
    c.repeated-in_default-First.ensures

pub new-requires-clause-few : goal.new-requires-clause-few
new-requires-clause-few c = few_offsets c.args.first.now c.args.second.now c.compare_slopes.ensures.left c.compare_slopes.ensures.right
    (λ h. c.in_default.not-Early-0 (c.tail.ensures.value ∙ h)) (λ h. c.in_default.not-First-1 (c.compare_slopes.ensures.value ∙ h)) c.requires.short

pub returns-in_ok-plan-in_default : goal.returns-in_ok-plan-in_default
returns-in_ok-plan-in_default c =
    let late : tail_of c.args.first.now ≡ Early → ⊥ = λ h. c.in_default.not-Early-0 (c.tail.ensures.value ∙ h) in
    subst (λ (s : ℕ → Date). IfOk c.values.result (λ values. values.items ≡ table s c.args.count))
    (sym (late_left c.args.first.now c.args.second.now late ∙ gentle_left c.args.first.now c.args.second.now (λ h. c.in_default.not-First-1 (c.compare_slopes.ensures.value ∙ h))))
    (subst (λ (z : DividedForms). IfOk c.values.result (λ values. values.items ≡ table (left_over z.first z.second) c.args.count)) c.in_ok-plan-in_default.ensures c.values.ensures)
