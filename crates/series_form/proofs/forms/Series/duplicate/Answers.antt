use Rattle.std.proofs.Common.{◌≡◌, ◌∙◌, ap, sym, subst, ℤ, List, to_z, of_z}
use Rattle.std.specs.Int.{w128}
use Rattle.std.proofs.lemmas.Int.{to_z-of_z}
use Rattle.dioid.specs.declared.dates.Date.{Date}
use Rattle.series_laws.specs.SeriesForms.{form_with}
use Rattle.series_form.specs.NumberBounds.{IsSeries}
use Rattle.series_form.proofs.DateNumbers.{small_fits}
use Rattle.series_form.proofs.forms.Series.duplicate.Goals as goal

pub invariant_of-result : goal.invariant_of-result
invariant_of-result c =
    let items : c.in_ok-values.values.items ≡ c.self.inside.values.items = c.in_ok-values.ensures ∙ c.as_slice.ensures.value in
    subst (λ (z : List Date). IsSeries (form_with z c.self.inside.period (to_z w128 (of_z w128 c.self.inside.step)))) (sym items)
    (subst (λ (z : ℤ). IsSeries (form_with c.self.inside.values.items c.self.inside.period z))
    (sym (to_z-of_z w128 c.self.inside.step (small_fits c.self.inside.step c.self.invariant.small.step))) c.self.invariant)

pub returns-clause-value : goal.returns-clause-value
returns-clause-value c =
    let items : c.in_ok-values.values.items ≡ c.self.inside.values.items = c.in_ok-values.ensures ∙ c.as_slice.ensures.value in
    ap (λ (z : List Date). form_with z c.self.inside.period (to_z w128 (of_z w128 c.self.inside.step))) items
    ∙ ap (form_with c.self.inside.values.items c.self.inside.period) (to_z-of_z w128 c.self.inside.step (small_fits c.self.inside.step c.self.invariant.small.step)) ∙ c.self.view_is
