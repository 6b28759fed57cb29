use Rattle.std.proofs.Common.{◌≡◌, ◌≤◌, ◌+◌, ◌-◌, ◌*◌, ◌/◌, ◌∙◌, ℕ, ap, subst, arith, length}
use Rattle.std.proofs.lemmas.Nat.{div-add-mod'}
use Rattle.series_laws.specs.SeriesForms.{size_of}
use Rattle.series_form.specs.SeriesLimits.{most_covering_shifts}
use Rattle.series_ops.proofs.ProductPlans.{few_covers}
use Rattle.series_ops.proofs.products.lifts.Goals as goal

pub returns-clause-value : goal.returns-clause-value
returns-clause-value c =
    let shifts = c.common_period-shifts.result in
    ap (λ (z : ℕ). (z + (shifts - 1)) / shifts) (ap length c.values.ensures.value)
    ∙ ap (λ (z : ℕ). (size_of c.args.first.now + (z - 1)) / z) c.common_period-shifts.ensures.value

pub returns-clause-bound : goal.returns-clause-bound
returns-clause-bound c =
    let size : length c.values.result.now ≡ size_of c.args.first.now = ap length c.values.ensures.value in
    let short : size_of c.args.first.now ≤ 20000 = c.values.ensures.series.short in
    omega (arith, few_covers (length c.values.result.now) c.common_period-shifts.result c.common_period-shifts.ensures.positive)

pub returns-clause-covers : goal.returns-clause-covers
returns-clause-covers c =
    let size : length c.values.result.now ≡ size_of c.args.first.now = ap length c.values.ensures.value in
    let short : size_of c.args.first.now ≤ 20000 = c.values.ensures.series.short in
    let shifts = c.common_period-shifts.result in
    let count : ℕ = (length c.values.result.now + (shifts - 1)) / shifts in
    let low : count * shifts ≤ most_covering_shifts =
    omega (arith, div-add-mod' (length c.values.result.now + (shifts - 1)) shifts, c.common_period-shifts.ensures.bound, c.common_period-shifts.ensures.positive) in
    subst (λ (z : ℕ). count * z ≤ most_covering_shifts) c.common_period-shifts.ensures.value low
