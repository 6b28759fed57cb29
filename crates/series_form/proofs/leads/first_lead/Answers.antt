use Rattle.std.proofs.Common.{◌≤◌, ℕ, arith, ap, ◌∙◌}
use Rattle.std.specs.Int.{w128}
use Rattle.std.specs.Int.RustNames.{unsigned_abs}
use Rattle.std.proofs.lemmas.Int.{to_z-of_z}
use Rattle.series_laws.specs.SeriesForms.{value_at, gap}
use Rattle.series_form.specs.SeriesLimits.{greatest_moderate}
use Rattle.series_form.proofs.DateNumbers.{moderate_fits}
use Rattle.series_form.proofs.Heights.{gap_moderate}
use Rattle.series_form.proofs.leads.first_lead.Goals as goal

pub gap_of-requires : goal.gap_of-requires
gap_of-requires c =
    let low : unsigned_abs (gap (value_at c.args.first.now c.common_start-shift.result) (value_at c.args.second.now c.common_start-shift.result)) ≤ greatest_moderate =
    gap_moderate c.args.first.now c.args.second.now c.common_start-shift.result c.at.ensures.series c.at-2.ensures.series (omega (arith, c.common_start-shift.ensures.bound)) in
    moderate_fits (gap c.at.result c.at-2.result) (rw (c.at.ensures.value, c.at-2.ensures.value) low)

pub returns : goal.returns
returns c = record {
  value = to_z-of_z w128 c.gap_of.result (record { sfits = c.gap_of.type_inv }) ∙ c.gap_of.ensures
      ∙ ap (λ d. gap d c.at-2.result) c.at.ensures.value ∙ ap (gap (value_at c.args.first.now c.common_start-shift.result)) c.at-2.ensures.value
      ∙ ap (λ (k : ℕ). gap (value_at c.args.first.now k) (value_at c.args.second.now k)) (c.common_start-shift.ensures.value ∙ omega arith);
}
