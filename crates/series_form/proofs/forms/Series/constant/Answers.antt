use Rattle.std.proofs.Common.{sym, ap, List, pos, subst}
use Rattle.dioid.specs.declared.dates.Date.{Date}
use Rattle.series_laws.specs.SeriesForms.{form_with}
use Rattle.series_form.specs.NumberBounds.{IsSeries}
use Rattle.series_form.proofs.Finished.{constant_series}
use Rattle.series_form.proofs.forms.Series.constant.Goals as goal

pub invariant_of-result : goal.invariant_of-result
invariant_of-result c = subst (λ (z : List Date). IsSeries (form_with z 1 (pos 0))) (sym c.in-Ok.ensures) (constant_series c.args.date c.requires)

pub returns-in-Ok : goal.returns-in-Ok
returns-in-Ok c = (
  ap (λ (z : List Date). form_with z 1 (pos 0)) c.in-Ok.ensures,
  subst (λ (z : List Date). IsSeries (form_with z 1 (pos 0))) (sym c.in-Ok.ensures) (constant_series c.args.date c.requires),
)
