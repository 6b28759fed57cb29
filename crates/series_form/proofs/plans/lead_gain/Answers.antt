use Rattle.std.proofs.Common.{◌≡◌, ◌/◌, ◌-ℤ◌, ℕ, ℤ, ap, ◌∙◌}
use Rattle.series_laws.specs.Periodic.{times}
use Rattle.series_laws.specs.Needs.{rise_of, fall_of}
use Rattle.series_form.proofs.DateNumbers.{difference_code}
use Rattle.series_form.proofs.plans.lead_gain.Goals as goal

pub returns-clause-value : goal.returns-clause-value
returns-clause-value c =
    let rises : c.gain_over.result ≡ rise_of c.args.first.now c.args.second.now =
    c.gain_over.ensures.value ∙ ap (λ (z : ℕ). times (z / c.args.first.now.period) c.args.first.now.step) c.common_period-shifts.ensures.value in
    let falls : c.gain_over-2.result ≡ fall_of c.args.first.now c.args.second.now =
    c.gain_over-2.ensures.value ∙ ap (λ (z : ℕ). times (z / c.args.second.now.period) c.args.second.now.step) c.common_period-shifts.ensures.value in
    difference_code c.gain_over.result c.gain_over-2.result c.gain_over.ensures.bound c.gain_over-2.ensures.bound
    ∙ ap (λ (z : ℤ). z -ℤ c.gain_over-2.result) rises ∙ ap (λ (z : ℤ). rise_of c.args.first.now c.args.second.now -ℤ z) falls
