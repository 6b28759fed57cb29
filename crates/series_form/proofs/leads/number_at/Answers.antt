use Rattle.std.proofs.Common.{◌≤◌, ◌+◌, ◌*◌, ℤ, arith, subst, sym, ◌∙◌}
use Rattle.std.specs.Int.{w128}
use Rattle.std.specs.Int.RustNames.{unsigned_abs}
use Rattle.std.proofs.lemmas.Int.{to_z-of_z}
use Rattle.dioid.specs.declared.dates.Date.{Date}
use Rattle.series_form.specs.NumberBounds.{IsMagnitudeUpTo}
use Rattle.series_form.specs.SeriesLimits.{greatest_value, greatest_moderate}
use Rattle.series_form.proofs.Finished.{value_up_to, up_to_more}
use Rattle.series_form.proofs.DateNumbers.{moderate_fits}
use Rattle.series_form.proofs.leads.number_at.Goals as goal

pub returns-in-At-clause-bound : goal.returns-in-At-clause-bound
returns-in-At-clause-bound c =
    let low : unsigned_abs c.in-At.number ≤ greatest_moderate =
    subst (λ (z : Date). IsMagnitudeUpTo greatest_moderate z) (sym c.at.ensures.value ∙ c.in-At.is)
    (up_to_more (greatest_value + 100000 * greatest_value) greatest_moderate _ (omega arith) (value_up_to c.args.series.now c.at.ensures.series c.args.shift 100000 c.requires)) in
    subst (λ (z : ℤ). unsigned_abs z ≤ greatest_moderate) (sym (to_z-of_z w128 c.in-At.number (moderate_fits c.in-At.number low))) low
