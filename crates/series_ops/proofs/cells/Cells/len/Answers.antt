use Rattle.std.proofs.Common.{List, subst}
use Rattle.dioid.specs.declared.dates.Date.{Date}
use Rattle.series_form.specs.SeriesLimits.{greatest_listed}
use Rattle.series_ops.specs.ListFunctions.{AreUpTo}
use Rattle.series_ops.proofs.ScaleLaws.{cells_up_to}
use Rattle.series_ops.proofs.Scales.{long_scale}
use Rattle.series_ops.proofs.cells.Cells.len.Goals as goal

pub returns-clause-bound : goal.returns-clause-bound
returns-clause-bound c = subst (λ (z : List Date). AreUpTo greatest_listed z) c.self.view_is (λ k. cells_up_to long_scale c.self.inside.numbers.items k c.self.invariant.0)
