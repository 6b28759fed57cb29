use Rattle.std.proofs.Common.{◌≡◌}
use Rattle.series_laws.specs.SeriesForms.{form_with}
use Rattle.series_laws.specs.ProductNeeds.{anchor_upto}
use Rattle.series_ops.specs.ListFunctions.{IsModest}
use Rattle.series_ops.proofs.anchors.Parts.anchor.Given as goal

abbrev pub invariant-loop-place : goal.invariant-loop-place
invariant-loop-place l = (l.anchor ≡ anchor_upto (form_with l.self.values.now l.self.period l.self.step) l.place) × IsModest l.anchor
