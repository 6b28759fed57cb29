use Rattle.std.proofs.Common.{◌≤◌, ℕ, ℤ, arith, subst, sym, ap, ◌∙◌}
use Rattle.std.specs.Int.RustNames.{unsigned_abs}
use Rattle.series_laws.specs.Periodic.{times}
use Rattle.series_form.specs.SeriesLimits.{greatest_value, most_common_shifts, greatest_gain}
use Rattle.series_form.proofs.DateNumbers.{gain_bound, gain_fits, gain_code}
use Rattle.series_form.proofs.leads.climb.Goals as goal

pub overflow_mul-result : goal.overflow_mul-result
overflow_mul-result c =
    let few : c.cover.result ≤ most_common_shifts = omega (arith, c.cover.ensures.bound) in
    let small = subst (λ (z : ℤ). unsigned_abs z ≤ greatest_value) (sym c.step.ensures.value) c.step.ensures.series.small.step in
    gain_fits c.cover.result c.step.result few small

pub returns-clause-value : goal.returns-clause-value
returns-clause-value c =
    let few : c.cover.result ≤ most_common_shifts = omega (arith, c.cover.ensures.bound) in
    let small = subst (λ (z : ℤ). unsigned_abs z ≤ greatest_value) (sym c.step.ensures.value) c.step.ensures.series.small.step in
    gain_code c.cover.result c.step.result few small ∙ ap (times c.cover.result) c.step.ensures.value ∙ ap (λ (z : ℕ). times z c.args.second.now.step) c.cover.ensures.value

pub returns-clause-bound : goal.returns-clause-bound
returns-clause-bound c =
    let few : c.cover.result ≤ most_common_shifts = omega (arith, c.cover.ensures.bound) in
    let small = subst (λ (z : ℤ). unsigned_abs z ≤ greatest_value) (sym c.step.ensures.value) c.step.ensures.series.small.step in
    subst (λ (z : ℤ). unsigned_abs z ≤ greatest_gain) (sym (gain_code c.cover.result c.step.result few small))
    (gain_bound c.cover.result c.step.result few small)
