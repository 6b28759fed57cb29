use Rattle.std.proofs.Common.{◌<◌, ◌≤◌, ◌/◌, ◌≡◌, ℕ, ℤ, arith, subst, sym, ap, ◌∙◌}
use Rattle.std.specs.Int.RustNames.{unsigned_abs}
use Rattle.series_laws.specs.Periodic.{times}
use Rattle.series_form.specs.SeriesLimits.{greatest_value, most_common_shifts, greatest_gain}
use Rattle.series_form.proofs.DateNumbers.{div_below, gain_bound, gain_fits, gain_code}
use Rattle.series_form.proofs.plans.gain_over.Goals as goal

few : (shifts period p : ℕ) → shifts ≤ most_common_shifts → period ≡ p → 0 < p → shifts / period ≤ most_common_shifts
few shifts period p h e w = let d : shifts / period ≤ shifts = div_below shifts period (omega arith) in omega arith

pub overflow_mul-result : goal.overflow_mul-result
overflow_mul-result c =
    let low = few c.args.shifts c.period.result _ c.requires c.period.ensures.value c.period.ensures.series.canonical.form.period_positive in
    let small = subst (λ (z : ℤ). unsigned_abs z ≤ greatest_value) (sym c.step.ensures.value) c.step.ensures.series.small.step in
    gain_fits (c.args.shifts / c.period.result) c.step.result low small

pub returns-clause-value : goal.returns-clause-value
returns-clause-value c =
    let low = few c.args.shifts c.period.result _ c.requires c.period.ensures.value c.period.ensures.series.canonical.form.period_positive in
    let small = subst (λ (z : ℤ). unsigned_abs z ≤ greatest_value) (sym c.step.ensures.value) c.step.ensures.series.small.step in
    gain_code (c.args.shifts / c.period.result) c.step.result low small ∙ ap (λ (z : ℕ). times (c.args.shifts / z) c.step.result) c.period.ensures.value
    ∙ ap (times (c.args.shifts / c.args.series.now.period)) c.step.ensures.value

pub returns-clause-bound : goal.returns-clause-bound
returns-clause-bound c =
    let low = few c.args.shifts c.period.result _ c.requires c.period.ensures.value c.period.ensures.series.canonical.form.period_positive in
    let small = subst (λ (z : ℤ). unsigned_abs z ≤ greatest_value) (sym c.step.ensures.value) c.step.ensures.series.small.step in
    subst (λ (z : ℤ). unsigned_abs z ≤ greatest_gain) (sym (gain_code (c.args.shifts / c.period.result) c.step.result low small))
    (gain_bound (c.args.shifts / c.period.result) c.step.result low small)
