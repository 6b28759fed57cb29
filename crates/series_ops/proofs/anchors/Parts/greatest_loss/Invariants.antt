use Rattle.std.proofs.Common.{◌≡◌, ◌≤◌, ◌+◌}
use Rattle.std.specs.Int.RustNames.{unsigned_abs}
use Rattle.series_laws.specs.SeriesForms.{form_with, repeat_start}
use Rattle.series_laws.specs.Needs.{greatest_int}
use Rattle.series_laws.specs.ProductNeeds.{loss_of_part}
use Rattle.series_form.specs.SeriesLimits.{greatest_part_loss}
use Rattle.series_ops.proofs.anchors.Parts.greatest_loss.Given as goal

abbrev pub invariant-loop-place : goal.invariant-loop-place
invariant-loop-place l = (l.worst ≡ greatest_int (λ i. loss_of_part (form_with l.self.values.now l.self.period l.self.step)
    (repeat_start (form_with l.self.values.now l.self.period l.self.step) + i)) l.place) × (unsigned_abs l.worst ≤ greatest_part_loss)
